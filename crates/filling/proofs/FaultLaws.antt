-- The fault of an inference that goes on after another, and of one record.
use Prim.Native.Nat.{ℕ}
use mathlib.Core.List.{[], ◌∷◌}
use mathlib.Core.Option.{Option, none, some}
use mathlib.Core.Path.{◌≡◌, refl}
use Rattle.rules.specs.Kinds.{kind_of}
use Rattle.rules.specs.Terms.{Term, type_of}
use Rattle.rules.specs.Types.{Table}
use Rattle.rules.specs.Typing.{Env}
use Rattle.rules.specs.Links.{node}
use Rattle.rules.specs.Refusals.{Refusal}
use Rattle.inference.specs.Inference.{retyped, table_for, number_for, Inference, faulty, filled, unless_refused, ◌and_then◌, assigned}
use Rattle.records.specs.declared.Record.{Record}
use Rattle.judging.specs.Tests.{fields_meant}
use Rattle.assigning.specs.Assigning.{wanted_for, fault_for}
use Rattle.filling.specs.Filling.{fault_of}

-- What was faulty stays so.
pub fault_stays : (m : Refusal) (o : Inference) (g : Table → Term → Inference) → some m ≡ fault_of o → some m ≡ fault_of (o and_then g)
unfolding fault_of ◌and_then◌
fault_stays m (faulty r) g t = t
fault_stays m (filled A u) g t = absurd (cc)

pub fault_unless : (f : Option Refusal) (A : Table) (t : Term) → fault_of (unless_refused f (filled A t)) ≡ f
unfolding fault_of unless_refused
fault_unless none A t = refl
fault_unless (some r) A t = refl

pub unless_none : (f : Option Refusal) (o : Inference) → f ≡ none → unless_refused f o ≡ o
unfolding unless_refused
unless_none f o e = rw (e, unless_refused)

-- A record's inference by its fault and its type.
pub assigned_by : (A : Table) (Γ : Env) (l n : ℕ) (r : Record) (x y z : ℕ) (c s e : Term) → x ≡ type_of c → y ≡ type_of s → z ≡ type_of e →
    let w = wanted_for A Γ r (x ∷ y ∷ z ∷ []) in
    assigned A Γ l (kind_of r.kind) (fields_meant r) n c s e
    ≡ unless_refused (fault_for A Γ l n r (x ∷ y ∷ z ∷ [])) (filled (table_for A w) (node (kind_of r.kind) (retyped (number_for A w) (fields_meant r)) c s e))
unfolding assigned fault_for
assigned_by A Γ l n r x y z c s e hx hy hz = rw (hx, hy, hz) refl
