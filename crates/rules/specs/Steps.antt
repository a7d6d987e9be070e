-- Steps: which child a record steps, and the step rules as a relation between a term and its next one at a level.
use Rattle.std.specs.Prelude.{ℕ, ◌+◌, List, [], ◌∷◌, Bool, true, T, eqb, ltb}
use Rattle.rules.specs.Lists.{pick}
use Rattle.rules.specs.Kinds.{Unary, function, fix, lift, quote, splice, Binary, Ternary, match, Kind, leaf₀, unary₁, binary₂, ternary₃}
use Rattle.rules.specs.Terms.{Fields, Term, unary, binary, ternary, size}
use Rattle.rules.specs.Types.{Table}
use Rattle.rules.specs.Typing.{level₁}
use Rattle.rules.specs.Values.{done}
use Rattle.rules.specs.Contractions.{StepRule, Contraction}

-- Which kinds step a child, at their level. "At level 0, .. fix, lift and matches step the first child .. Quote steps its child at level 1 ..
-- At level 1, function, application and fix step the first child that isn't plain; splice steps its child at level 0."
abbrev pub enters : ℕ → Unary → Bool
enters l function = eqb l 1
enters l fix = true
enters l lift = eqb l 0
enters l quote = eqb l 0
enters l splice = eqb l 1

-- A match stands at level 0 only.
abbrev pub stepping_later : Ternary → ℕ
stepping_later (match k) = 0

-- How many of its children, from the first on, a record of kind k at level l steps.
abbrev pub stepping : ℕ → Kind → ℕ
stepping l (leaf₀ k) = 0
stepping l (unary₁ k) = pick (enters l k) 1 0
stepping l (binary₂ k) = 2
stepping l (ternary₃ k) = pick (eqb l 0) 1 (stepping_later k)

-- Whether it steps its child i, the first being 0.
abbrev pub steps_child : ℕ → Kind → ℕ → Bool
steps_child l k i = ltb i (stepping l k)

-- What a step does: the preorder number of the rewritten record before the step, the rule, and how many variable records gave way.
pub record Event : Type 0 where
  pub place : ℕ
  pub rule : StepRule
  pub replaced : ℕ

-- At a tree's root, which is record 1; and the same step of a tree that stands after n records.
abbrev pub at_root : StepRule → ℕ → Event
at_root r n = record { place = 1; rule = r; replaced = n }

abbrev pub further : ℕ → Event → Event
further n e = record { place = n + e.place; rule = e.rule; replaced = e.replaced }

-- t makes the step to u at level l, with event e: its root is rewritten, or a child makes a step that its kind steps at level l, where each
-- child before it is `ready`. "At level 0, application steps its first child until that is a value, then its second; fix, lift and matches step
-- the first child until it is a value. .. Then:" the record itself is rewritten. That a child steps only until it is done, and a record is
-- rewritten only then, need not be asked: what is done makes no step (theorem `rests`).
pub data StepWhere (types : Table) (ready : ℕ → Term → Type 0) : ℕ → Event → Term → Term → Type 0 where
  -- The root itself.
  here : {l n : ℕ} {r : StepRule} {t u : Term} → Contraction types l r n t u → StepWhere types ready l (at_root r n) t u
  -- The child of a kind with one.
  in_child : (l : ℕ) (k : Unary) (f : Fields) {e : Event} {t t' : Term} → T (steps_child l (unary₁ k) 0)
      → StepWhere types ready (level₁ k l) e t t' → StepWhere types ready l (further 1 e) (unary k f t) (unary k f t')
  -- The two children of a kind with two, an application's function and argument.
  in_first : (l : ℕ) (k : Binary) (f : Fields) {e : Event} {t t' : Term} (u : Term) → T (steps_child l (binary₂ k) 0)
      → StepWhere types ready l e t t' → StepWhere types ready l (further 1 e) (binary k f t u) (binary k f t' u)
  in_second : (l : ℕ) (k : Binary) (f : Fields) {e : Event} (t : Term) {u u' : Term} → T (steps_child l (binary₂ k) 1) → ready l t
      → StepWhere types ready l e u u' → StepWhere types ready l (further (1 + size t) e) (binary k f t u) (binary k f t u')
  -- The three children of a kind with three: a match's code, and no kind's second or third so far.
  in_first₃ : (l : ℕ) (k : Ternary) (f : Fields) {e : Event} {t t' : Term} (u v : Term) → T (steps_child l (ternary₃ k) 0)
      → StepWhere types ready l e t t' → StepWhere types ready l (further 1 e) (ternary k f t u v) (ternary k f t' u v)
  in_second₃ : (l : ℕ) (k : Ternary) (f : Fields) {e : Event} (t : Term) {u u' : Term} (v : Term) → T (steps_child l (ternary₃ k) 1) → ready l t
      → StepWhere types ready l e u u' → StepWhere types ready l (further (1 + size t) e) (ternary k f t u v) (ternary k f t u' v)
  in_third₃ : (l : ℕ) (k : Ternary) (f : Fields) {e : Event} (t u : Term) {v v' : Term} → T (steps_child l (ternary₃ k) 2) → ready l t → ready l u
      → StepWhere types ready l e v v' → StepWhere types ready l (further (1 + size t + size u) e) (ternary k f t u v) (ternary k f t u v')

-- The steps one after another, with their events: "each step takes the whole term at level 0 and makes the next, under the same type table".
pub data StepsWhere (types : Table) (ready : ℕ → Term → Type 0) : List Event → Term → Term → Type 0 where
  still : {t : Term} → StepsWhere types ready [] t t
  more : {e : Event} {es : List Event} {t u v : Term} → StepWhere types ready 0 e t u → StepsWhere types ready es u v → StepsWhere types ready (e ∷ es) t v

-- Document 01's order: "application steps its first child until that is a value, then its second", and at level 1 "the first child that isn't
-- plain". A child is stepped when those before it are done.
abbrev pub Finished : ℕ → Term → Type 0
Finished l t = T (done l t)

abbrev pub Step : Table → ℕ → Event → Term → Term → Type 0
Step types l e t u = StepWhere types Finished l e t u

abbrev pub Steps : Table → List Event → Term → Term → Type 0
Steps types es t u = StepsWhere types Finished es t u
