-- The moves of a focus by value: what they need, and what the list of records holds after them.
use Rattle.std.specs.Prelude.{ℕ, ◌+◌, ◌*◌, ◌<◌, List, [], ◌∷◌, ◌≡◌, length, get_or}
use Rattle.rules.specs.Terms.{Term, size}
use Rattle.rules.specs.FreeBounds.{free_bound}
use Rattle.rules.specs.Types.{Table}
use Rattle.rules.specs.Typing.{Typed}
use Rattle.rules.specs.Format.{Record, no_record}
use Rattle.terms.specs.Children.{sizes, preorders}
use Rattle.contexts.specs.Contexts.{Frame, fill, children_before, children_after, hole_number, hole_level, Context, plug}
use Rattle.zipper.specs.declared.focus.Focus.{Focus}
use Rattle.zipper.specs.declared.focus.Ahead.{Ahead}
use Rattle.terms.specs.Preorder.{There}
use Rattle.zipper.specs.Layout.{FocusBefore, FocusAfter}

-- p is the place that a frame's record at i holds.
pub record LinkIs (rs : List Record) (i p : ℕ) : Type 0 where
  pub is : p ≡ (get_or rs i no_record).first

-- n trees stand from i on, one after another; r is the place after them.
pub record HasTrees (rs : List Record) (i n : ℕ) : Type 0 where
  pub trees : List Term
  pub count : length trees ≡ n
  pub there : There rs i (preorders trees)

pub record SkipsAll (rs : List Record) (i n r : ℕ) : Type 0 where
  pub is : (ts : List Term) → length ts ≡ n → There rs i (preorders ts) → r ≡ i + sizes ts

-- The term is laid out around the focus z: t, in the context C.
abbrev pub LaidAt : List Record → Focus → Context → Term → Type 0
LaidAt rs z C t = FocusBefore rs C t z.s z.l z.r z.top

-- The same where the focus is after the gap.
abbrev pub AheadAt : List Record → Ahead → Context → Term → Type 0
AheadAt rs a C t = FocusAfter rs C t a.l a.r (a.r + size t) a.top

-- There is a frame; n is the number of its children after the hole.
pub record HasFrame (rs : List Record) (z : Focus) : Type 0 where
  pub frame : Frame
  pub context : Context
  pub focus : Term
  pub laid : LaidAt rs z (frame ∷ context) focus

pub record CountsAfter (rs : List Record) (z : Focus) (n : ℕ) : Type 0 where
  pub is : (F : Frame) (C : Context) (t : Term) → LaidAt rs z (F ∷ C) t → n ≡ length (children_after F)

-- A frame is closed. The measures of its tree fit 16 bits.
pub record CanClose (rs : List Record) (z : Focus) : Type 0 where
  pub holds : HasFrame rs z
  pub low : 2 * free_bound (fill holds.frame holds.focus) + 1 < 65536

pub record Closes (rs rs' : List Record) (z r : Focus) : Type 0 where
  pub does : (F : Frame) (C : Context) (t : Term) → LaidAt rs z (F ∷ C) t → 2 * free_bound (fill F t) + 1 < 65536 → LaidAt rs' r C (fill F t)
  pub outward : r.s ≡ z.top

-- All frames of a typed term are closed, one after another.
pub record CanCloseAll (rs : List Record) (z : Focus) : Type 0 where
  pub types : Table
  pub context : Context
  pub focus : Term
  pub laid : LaidAt rs z context focus
  pub typed : Typed types [] 0 (plug context focus)

pub record ClosesAll (rs rs' : List Record) (z r : Focus) : Type 0 where
  pub does : (types : Table) (C : Context) (t : Term) → LaidAt rs z C t → Typed types [] 0 (plug C t) → LaidAt rs' r [] (plug C t)

-- A focus after the gap is brought over it.
pub record HasAhead (rs : List Record) (a : Ahead) : Type 0 where
  pub context : Context
  pub focus : Term
  pub laid : AheadAt rs a context focus

pub record Brings (rs rs' : List Record) (a : Ahead) (r : Focus) : Type 0 where
  pub does : (C : Context) (t : Term) → AheadAt rs a C t → LaidAt rs' r C t
  pub from : r.s ≡ a.l
  pub onward : a.r < r.r

-- The root of such a focus becomes a frame, whose hole is child j. What is in the hole stays at its place.
pub record CanOpen (rs : List Record) (a : Ahead) (j : ℕ) : Type 0 where
  pub frame : Frame
  pub context : Context
  pub inner : Term
  pub laid : AheadAt rs a context (fill frame inner)
  pub hole : hole_number frame ≡ j

pub record Opens (rs rs' : List Record) (a : Ahead) (j : ℕ) (r : Ahead) : Type 0 where
  pub does : (F : Frame) (C : Context) (t : Term) → AheadAt rs a C (fill F t) → hole_number F ≡ j → AheadAt rs' r (F ∷ C) t
  pub level : (F : Frame) (C : Context) (t : Term) → AheadAt rs a C (fill F t) → r.level ≡ hole_level F a.level
  pub place : (F : Frame) (C : Context) (t : Term) → AheadAt rs a C (fill F t) → hole_number F ≡ j → r.r ≡ a.r + (1 + sizes (children_before F))
