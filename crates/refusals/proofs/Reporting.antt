-- The laws of what checks report: of one check after another, and of the scan for the lowest fault.
use Prim.Native.Nat.{ℕ, zero, suc, ◌+◌, ◌≤◌, ◌<◌}
use native.Mathlib.Omega.{arith}
use native.Mathlib.Decide.{dec_lt}
use mathlib.Core.Bool.{Bool, true, false}
use mathlib.Core.Option.{Option, none, some}
use mathlib.Core.Path.{◌≡◌, refl, sym}
use Rattle.std.specs.Prelude.{Result, Ok, Err}
use Rattle.rules.specs.Conditions.{Rule, holds}
use Rattle.rules.specs.Refusals.{unless, ◌then◌, lowest}
use Rattle.rules.specs.Refusals.{Refusal as MeantRefusal}
use Rattle.refusals.specs.declared.reasons.Reason.{Reason}
use Rattle.refusals.specs.declared.reasons.Refusal.{Refusal}
use Rattle.refusals.specs.Reports.{reason_number, Reports, FindsLowest}

-- One check, then others: where the first refuses that is the answer, and where it doesn't the others' is.
pub reports_first : (m : MeantRefusal) (o p : Option MeantRefusal) → some m ≡ o → some m ≡ (o then p)
unfolding ◌then◌
reports_first m none p t = cc
reports_first m (some x) p t = t

pub reports_next : (q o p : Option MeantRefusal) → none ≡ o → q ≡ p → q ≡ (o then p)
unfolding ◌then◌
reports_next q o p t u = rw (sym t) u

-- Of `count` numbers from `from`: where each keeps the rule none is refused; and where one breaks it and those before keep it, it is the lowest.
pub none_lowest : (rule : ℕ → Rule) (number from count : ℕ) → ((n : ℕ) → from ≤ n → n < from + count → holds (rule n) ≡ true) → none ≡ lowest rule number from count
unfolding lowest unless ◌then◌
none_lowest rule number from zero h = refl
none_lowest rule number from (suc count) h = rw (h from (omega arith) (omega arith)) (none_lowest rule number (suc from) count (λ n p q. h n (omega arith) (omega arith)))

pub one_lowest : (rule : ℕ → Rule) (number from count place : ℕ) → from ≤ place → place < from + count → holds (rule place) ≡ false
    → ((n : ℕ) → from ≤ n → n < place → holds (rule n) ≡ true) → some (record { number = number; place = place }) ≡ lowest rule number from count
unfolding lowest unless ◌then◌
one_lowest rule number from zero place p q b h = absurd (omega arith)
one_lowest rule number from (suc count) place p q b h = elim (dec_lt from place) [
  | yes l ↦ rw (h from (omega arith) l) (one_lowest rule number (suc from) count place l (omega arith) b (λ n r s. h n (omega arith) s))
  | no l ↦ let e : place ≡ from = omega arith in rw (sym e, b)
]

-- A scan by tests that tell whether each number keeps the rule reports the lowest fault.
pub lowest_found : (rule : ℕ → Rule) (Post : ℕ → Bool → Type 0) (reason : Reason) (count : ℕ) (r : Result Unit Refusal)
    → ((n : ℕ) (b : Bool) → 1 ≤ n → n ≤ count → Post n b → b ≡ holds (rule n)) → FindsLowest Post reason count r → Reports r (lowest rule (reason_number reason) 1 count)
lowest_found rule Post reason count (Ok x) h f = none_lowest rule (reason_number reason) 1 count (λ n p q. sym (h n true p (omega arith) (f n p (omega arith))))
lowest_found rule Post reason count (Err r) h (a, p, q, b, f) = rw a (one_lowest rule (reason_number reason) 1 count r.place p (omega arith) (sym (h r.place false p q b))
    (λ n s t. sym (h n true s (omega arith) (f n s t))))
