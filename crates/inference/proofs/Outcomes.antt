-- What is said of an inference that may be faulty: of what it fills, that it fills something, and of its fault.
use mathlib.Core.Option.{Option, none, some}
use mathlib.Core.Path.{◌≡◌, refl}
use Rattle.rules.specs.Terms.{Term}
use Rattle.rules.specs.Types.{Table}
use Rattle.rules.specs.Refusals.{Refusal}
use Rattle.inference.specs.Inference.{Inference, faulty, filled, unless_refused, ◌and_then◌}

-- P of what is filled, if something is; something is filled, and P of it; P of the fault, if there is one.
abbrev pub Fills : (Table → Term → Type 0) → Inference → Type 0
Fills P (faulty r) = Unit {0}
Fills P (filled A t) = P A t

abbrev pub Reaches : (Table → Term → Type 0) → Inference → Type 0
Reaches P (faulty r) = ⊥
Reaches P (filled A t) = P A t

abbrev pub Faults : (Refusal → Type 0) → Inference → Type 0
Faults P (faulty r) = P r
Faults P (filled A t) = Unit {0}

pub fills_then : (P Q : Table → Term → Type 0) (o : Inference) (g : Table → Term → Inference) → Fills P o → ((A : Table) (t : Term) → P A t → Fills Q (g A t))
    → Fills Q (o and_then g)
unfolding ◌and_then◌
fills_then P Q (faulty r) g h k = tt
fills_then P Q (filled A t) g h k = k A t h

pub reaches_then : (P Q : Table → Term → Type 0) (o : Inference) (g : Table → Term → Inference) → Reaches P o → ((A : Table) (t : Term) → P A t → Reaches Q (g A t))
    → Reaches Q (o and_then g)
unfolding ◌and_then◌
reaches_then P Q (faulty r) g h k = absurd h
reaches_then P Q (filled A t) g h k = k A t h

-- Of what comes after checks that may refuse.
pub fills_unless : (P : Table → Term → Type 0) (o : Option Refusal) (x : Inference) → (o ≡ none → Fills P x) → Fills P (unless_refused o x)
unfolding unless_refused
fills_unless P none x h = h refl
fills_unless P (some r) x h = tt

pub reaches_unless : (P : Table → Term → Type 0) (o : Option Refusal) (x : Inference) → o ≡ none → Reaches P x → Reaches P (unless_refused o x)
unfolding unless_refused
reaches_unless P o x e h = rw (e, unless_refused) h

-- Two things of what is filled.
pub reaches_both : {P Q : Table → Term → Type 0} (R : Table → Term → Type 0) (o : Inference) → ((A : Table) (t : Term) → P A t → Q A t → R A t) → Fills P o
    → Reaches Q o → Reaches R o
reaches_both R (faulty r) i h k = k
reaches_both R (filled A t) i h k = i A t h k

pub fills_some : (P Q : Table → Term → Type 0) (o : Inference) → ((A : Table) (t : Term) → P A t → Q A t) → Fills P o → Fills Q o
fills_some P Q (faulty r) i h = tt
fills_some P Q (filled A t) i h = i A t h

pub reaches_some : (P : Table → Term → Type 0) (o : Inference) → Fills P o → Reaches (λ _ _. Unit {0}) o → (A : Table) × (t : Term) × P A t
reaches_some P (faulty r) h k = absurd k
reaches_some P (filled A t) h k = (A, t, h)
