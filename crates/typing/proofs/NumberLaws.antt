-- The number that the walk hands back: what it says, a refusal as a number, and what is reported of it.
use Prim.Native.Nat.{ℕ, ◌+◌, ◌*◌, ◌/◌, ◌%◌, ◌≤◌, ◌<◌}
use native.Mathlib.Omega.{arith}
use mathlib.Core.Path.{◌≡◌, sym, ◌∙◌}
use mathlib.Core.Option.{none, some}
use borrow.Author.Tests.{ne_eqb}
use Rattle.std.specs.Prelude.{Ok, Err}
use Rattle.refusals.specs.declared.reasons.Reason.{Reason}
use Rattle.refusals.specs.declared.reasons.Reason.TheVariants.{OutputShort, WorkShort, ProgramShort, BadCounts, BadLength, BadEntry, BadField, BadLink, BadChildren, BadIndex, BadLevel, BadType, TypeWritten, TableFull}
use Rattle.refusals.specs.Reports.{reason_number, Reports}
use Rattle.typing.specs.Walking.{OfJudging, refusal_in, Packs}

pub passed_number : (q : ℕ) → q / 65536 ≡ 0 → none ≡ refusal_in q
unfolding refusal_in
passed_number q e = rw e

pub refused_number : (q : ℕ) → (q / 65536 ≡ 0 → ⊥) → refusal_in q ≡ some (record { number = q / 65536; place = q % 65536 })
unfolding refusal_in
refused_number q h = rw (ne_eqb (q / 65536) 0 h)

reason_some : (reason : Reason) → 1 ≤ reason_number reason
reason_some OutputShort = omega arith
reason_some WorkShort = omega arith
reason_some ProgramShort = omega arith
reason_some BadCounts = omega arith
reason_some BadLength = omega arith
reason_some BadEntry = omega arith
reason_some BadField = omega arith
reason_some BadLink = omega arith
reason_some BadChildren = omega arith
reason_some BadIndex = omega arith
reason_some BadLevel = omega arith
reason_some BadType = omega arith
reason_some TypeWritten = omega arith
reason_some TableFull = omega arith

pub packs : (reason : Reason) (number place : ℕ) → number ≡ reason_number reason → place < 65536 → Packs reason place (65536 * number + place)
packs reason number place e h =
    let q = 65536 * number + place in
    let k = reason_some reason in
    let a : q / 65536 ≡ reason_number reason = omega arith in
    let b : q % 65536 ≡ place = omega arith in
    let z : q / 65536 ≡ 0 → ⊥ = omega arith in
    record { holds = refused_number q z ∙ (λ i. some (record { number = a i; place = b i })); refused = omega arith }

-- What the number says is reported, by its reason.
pub nothing_told : (q : ℕ) → q / 65536 ≡ 0 → Reports {X = Unit} (Ok tt) (refusal_in q)
nothing_told q e = passed_number q e

told_for : (reason : Reason) (q : ℕ) → q / 65536 ≡ reason_number reason → Reports {X = Unit} (Err (record { reason = reason; place = q % 65536 })) (refusal_in q)
told_for reason q e =
    let k = reason_some reason in
    let z : q / 65536 ≡ 0 → ⊥ = omega arith in
    sym (refused_number q z ∙ (λ i. some (record { number = e i; place = q % 65536 })))

pub index_told : (q : ℕ) → q / 65536 ≡ 10 → Reports {X = Unit} (Err (record { reason = BadIndex; place = q % 65536 })) (refusal_in q)
index_told = told_for BadIndex

pub level_told : (q : ℕ) → q / 65536 ≡ 11 → Reports {X = Unit} (Err (record { reason = BadLevel; place = q % 65536 })) (refusal_in q)
level_told = told_for BadLevel

pub type_told : (q : ℕ) → OfJudging (refusal_in q) → (q / 65536 ≡ 0 → ⊥) → (q / 65536 ≡ 10 → ⊥) → (q / 65536 ≡ 11 → ⊥)
    → Reports {X = Unit} (Err (record { reason = BadType; place = q % 65536 })) (refusal_in q)
type_told q h z i l =
    let within = rw (refused_number q z) at h in
    let e : q / 65536 ≡ 12 = omega arith in
    told_for BadType q e

pub ruleset telling = (nothing_told, index_told, level_told, type_told)
