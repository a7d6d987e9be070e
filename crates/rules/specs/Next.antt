-- The next term as a function. Document 01's rules are the relation `Step`; this computes it, and the two agree (theorem `agree`).
use Rattle.std.specs.Prelude.{ℕ, zero, suc, ◌+◌, List, [], ◌∷◌, Bool, true, false, ◌&&◌, not, length}
use Rattle.std.proofs.Math.Option.{Option, none, some}
use Rattle.rules.specs.Lists.{mapped}
use Rattle.rules.specs.Kinds.{number, variable, Unary, function, fix, lift, quote, splice, Binary, application, Match, Ternary, match, Kind, unary₁, binary₂, ternary₃}
use Rattle.rules.specs.Terms.{Fields, Term, leaf, unary, binary, ternary, size}
use Rattle.rules.specs.Indices.{replaced, gave_way}
use Rattle.rules.specs.Types.{Table}
use Rattle.rules.specs.Typing.{level₁, first_level}
use Rattle.rules.specs.Values.{done}
use Rattle.rules.specs.Matching.{quoted, matched}
use Rattle.rules.specs.Contractions.{StepRule, on_application, on_fix, on_lift, on_splice, on_success, on_failure}
use Rattle.rules.specs.Steps.{steps_child, Event, at_root, further}

-- A function's body; a quote's tree; a number's fields.
abbrev pub body_of : Term → Option Term
body_of (leaf k f) = none
body_of (unary function f t) = some t
body_of (unary fix f t) = none
body_of (unary lift f t) = none
body_of (unary quote f t) = none
body_of (unary splice f t) = none
body_of (binary k f t u) = none
body_of (ternary k f t s e) = none

abbrev pub code_of : Term → Option Term
code_of (leaf k f) = none
code_of (unary function f t) = none
code_of (unary fix f t) = none
code_of (unary lift f t) = none
code_of (unary quote f t) = some t
code_of (unary splice f t) = none
code_of (binary k f t u) = none
code_of (ternary k f t s e) = none

abbrev pub numeral_of : Term → Option Fields
numeral_of (leaf number f) = some f
numeral_of (leaf variable f) = none
numeral_of (unary k f t) = none
numeral_of (binary k f t u) = none
numeral_of (ternary k f t s e) = none

-- The next term, and the event of the step to it.
pub record Next : Type 0 where
  pub event : Event
  pub term : Term

-- The root becomes t, by rule r, and n variables give way.
abbrev pub rewritten : StepRule → ℕ → Term → Next
rewritten r n t = record { event = at_root r n; term = t }

-- A child that stands after n records steps, and k puts it in its place.
abbrev pub inside : ℕ → (Term → Term) → Next → Next
inside n k m = record { event = further n m.event; term = k m.term }

-- What a term becomes at level l when the children that it steps are done.
abbrev pub contracted₁ : ℕ → Unary → Fields → Term → Option Next
contracted₁ l function f t = none
contracted₁ zero fix f t = mapped (λ b. rewritten on_fix (gave_way 1 0 b) (replaced (unary fix f t ∷ []) b)) (body_of t)
contracted₁ (suc l) fix f t = none
contracted₁ zero lift f t = mapped (λ g. rewritten on_lift 0 (quoted f.type (leaf number g))) (numeral_of t)
contracted₁ (suc l) lift f t = none
contracted₁ l quote f t = none
contracted₁ zero splice f t = none
contracted₁ (suc zero) splice f t = mapped (rewritten on_splice 0) (code_of t)
contracted₁ (suc (suc l)) splice f t = none

abbrev pub contracted₂ : ℕ → Binary → Fields → Term → Term → Option Next
contracted₂ zero application f t u = mapped (λ b. rewritten on_application (gave_way 1 0 b) (replaced (u ∷ []) b)) (body_of t)
contracted₂ (suc l) application f t u = none

-- "A match becomes success, with its variables replaced, or failure."
abbrev pub chosen : Match → Option (List Term) → Term → Term → Next
chosen k none s e = rewritten (on_failure k) 0 e
chosen k (some ts) s e = rewritten (on_success k) (gave_way (length ts) 0 s) (replaced ts s)

abbrev pub contracted₃ : Table → ℕ → Ternary → Fields → Term → Term → Term → Option Next
contracted₃ types zero (match k) f t s e = mapped (λ c. chosen k (matched types k f c) s e) (code_of t)
contracted₃ types (suc l) (match k) f t s e = none

-- A record of kind k at level l steps its child i, t, and that isn't done.
unfoldable pub waits : ℕ → Kind → ℕ → Term → Bool
waits l k i t = steps_child l k i && not (done (first_level k l) t)

-- The first child that waits is stepped; where none does, the record itself is rewritten.
unfoldable pub next : Table → ℕ → Term → Option Next
next types l (leaf k f) = none
next types l (unary k f t) = elim (waits l (unary₁ k) 0 t) [
  | true ↦ mapped (inside 1 (unary k f)) (next types (level₁ k l) t)
  | false ↦ contracted₁ l k f t
]
next types l (binary k f t u) = elim (waits l (binary₂ k) 0 t) [
  | true ↦ mapped (inside 1 (λ x. binary k f x u)) (next types l t)
  | false ↦ elim (waits l (binary₂ k) 1 u) [
    | true ↦ mapped (inside (1 + size t) (binary k f t)) (next types l u)
    | false ↦ contracted₂ l k f t u
  ]
]
next types l (ternary k f t s e) = elim (waits l (ternary₃ k) 0 t) [
  | true ↦ mapped (inside 1 (λ x. ternary k f x s e)) (next types l t)
  | false ↦ elim (waits l (ternary₃ k) 1 s) [
    | true ↦ mapped (inside (1 + size t) (λ x. ternary k f t x e)) (next types l s)
    | false ↦ elim (waits l (ternary₃ k) 2 e) [
      | true ↦ mapped (inside (1 + size t + size s) (ternary k f t s)) (next types l e)
      | false ↦ contracted₃ types l k f t s e
    ]
  ]
]
