-- Going from a focus that is done to the next one: on to a further child of its frame, or to the frame's tree. And going from a focus to the record
-- inside it that is rewritten.
use Rattle.std.specs.Prelude.{ℕ, suc, ◌+◌, ◌≤◌, List, [], ◌∷◌, ◌++◌, Bool, ◌≡◌, T}
use Rattle.rules.specs.Kinds.{Ternary, ternary₃, child_count}
use Rattle.rules.specs.Terms.{Fields, Term, ternary, root_kind}
use Rattle.rules.specs.Types.{Table}
use Rattle.rules.specs.Typing.{Typed}
use Rattle.rules.specs.Values.{value, done}
use Rattle.rules.specs.Contractions.{contracts}
use Rattle.rules.specs.Steps.{steps_child}
use Rattle.rules.specs.Format.{Record}
use Rattle.contexts.specs.Contexts.{Frame, first₃, frame_kind, hole_number, Context, plug, level_at, left_size, Evaluation}
use Rattle.contexts.specs.Moving.{Ready}
use Rattle.zipper.specs.declared.focus.Focus.{Focus}
use Rattle.zipper.specs.declared.focus.Ahead.{Ahead}
use Rattle.navigation.specs.declared.ascending.Turn.{Turn}
use Rattle.navigation.specs.declared.ascending.Turn.TheVariants.{Next, Value, Redex, Match}
use Rattle.zipper.specs.Focusing.{LaidAt, AheadAt, HasFrame}

-- The typed term `whole` is laid out in some way around a focus: t, at this level, in the evaluation context C.
pub record HeldIn (types : Table) (Laid : Context → Term → Type 0) (level : ℕ) (C : Context) (t whole : Term) : Type 0 where
  pub laid : Laid C t
  pub evaluation : Evaluation 0 C
  pub at_level : level ≡ level_at 0 C
  pub same : plug C t ≡ whole
  pub typed : Typed types [] 0 whole

-- In the list of records, with the focus before the gap, and after it.
abbrev pub Held : Table → List Record → Focus → ℕ → Context → Term → Term → Type 0
Held types rs z level C t whole = HeldIn types (LaidAt rs z) level C t whole

abbrev pub HeldAhead : Table → List Record → Ahead → Context → Term → Term → Type 0
HeldAhead types rs a C t whole = HeldIn types (AheadAt rs a) a.level C t whole

-- The focus is done, too.
pub record Rests (types : Table) (rs : List Record) (z : Focus) (level : ℕ) (C : Context) (t whole : Term) : Type 0 where
  pub held : Held types rs z level C t whole
  pub is_done : T (done (level_at 0 C) t)

-- b says whether the innermost frame's record, where it is at this level, steps the child after its hole.
pub record CanTellNext (rs : List Record) (z : Focus) (level : ℕ) : Type 0 where
  pub holds : HasFrame rs z
  pub low : level ≤ 1

pub record TellsNext (rs : List Record) (z : Focus) (level : ℕ) (b : Bool) : Type 0 where
  pub is : (F : Frame) (C : Context) (t : Term) → LaidAt rs z (F ∷ C) t → b ≡ steps_child level (frame_kind F) (suc (hole_number F))

-- The search is over: "the term is a value"; or the focus is the tree that is rewritten, and no match; or it is the code of a match that is rewritten,
-- and the match is its frame.
pub data Sought (types : Table) (rs : List Record) (whole : Term) : Turn → Type 0 where
  valued : (z : Focus) → T (value whole) → Held types rs z 0 [] whole whole → Sought types rs whole (Value z)
  redex : (z : Focus) (level : ℕ) (C : Context) (t : Term) → Held types rs z level C t whole → Ready (level_at 0 C) t → T (contracts (level_at 0 C) (root_kind t))
      → child_count (root_kind t) ≤ 2 → Sought types rs whole (Redex z level)
  matched : (z : Focus) (k : Ternary) (f : Fields) (s e : Term) (C : Context) (q : Term) → Held types rs z 0 (first₃ k f s e ∷ C) q whole → level_at 0 C ≡ 0
      → Ready 0 (ternary k f q s e) → T (contracts 0 (ternary₃ k)) → Sought types rs whole (Match z)

-- Or it goes on, at a next focus that isn't before place `from` on the right.
pub data Turned (types : Table) (rs : List Record) (from : ℕ) (whole : Term) : Turn → Type 0 where
  next : (a : Ahead) (C : Context) (t : Term) → HeldAhead types rs a C t whole → from ≤ a.r → Turned types rs from whole (Next a)
  sought : (r : Turn) → Sought types rs whole r → Turned types rs from whole r

pub record CanAscend (rs : List Record) (z : Focus) (level : ℕ) : Type 0 where
  pub types : Table
  pub context : Context
  pub focus : Term
  pub whole : Term
  pub rests : Rests types rs z level context focus whole

pub record Ascends (rs rs' : List Record) (z : Focus) (level : ℕ) (r : Turn) : Type 0 where
  pub does : (types : Table) (C : Context) (t whole : Term) → Rests types rs z level C t whole → Turned types rs' z.r whole r

-- The record at p is the root of u, in the hole of D in the focus, and it is rewritten next.
pub record RedexIn (types : Table) (rs : List Record) (a : Ahead) (p : ℕ) (D C : Context) (u whole : Term) : Type 0 where
  pub held : HeldAhead types rs a C (plug D u) whole
  pub evaluation : Evaluation (level_at 0 C) D
  pub place : p ≡ a.r + left_size D
  pub ready : Ready (level_at 0 (D ++ C)) u
  pub contracted : T (contracts (level_at 0 (D ++ C)) (root_kind u))

pub record CanReach (rs : List Record) (a : Ahead) (p : ℕ) : Type 0 where
  pub types : Table
  pub inner : Context
  pub context : Context
  pub tree : Term
  pub whole : Term
  pub redex_in : RedexIn types rs a p inner context tree whole

pub record Reaches (rs rs' : List Record) (a : Ahead) (p : ℕ) (r : Turn) : Type 0 where
  pub does : (types : Table) (D C : Context) (u whole : Term) → RedexIn types rs a p D C u whole → Sought types rs' whole r
