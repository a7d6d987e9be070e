-- Programs at the limits of the counts are passed, and an index beyond its field is not. This is about the rules alone; it stands here since the check
-- of 256 entries is computed, which takes seconds that every must-fail edit of `rules` would take too.
use Prim.Native.Nat.{ℕ, zero, suc, ◌+◌, ◌*◌}
use native.Mathlib.Omega.{arith}
use mathlib.Core.List.{[]}
use mathlib.Core.Path.{◌≡◌, refl, ap}
use Rattle.rules.specs.Lists.{listed, joined, total}
use Rattle.rules.specs.Kinds.{kind_of, numbered}
use Rattle.rules.specs.Editions.{first_edition}
use Rattle.rules.specs.Terms.{Term, leaf, unary, binary, ternary, size, type_of}
use Rattle.rules.specs.Types.{Code}
use Rattle.rules.specs.Typing.{Typed}
use Rattle.rules.specs.Format.{table_of, records_of, program_bytes}
use Rattle.rules.specs.Links.{laid, tree_of}
use Rattle.rules.specs.Refusals.{unless, ◌then◌, lowest}
use Rattle.rules.specs.Check.{judged, walked, form_refusal, size_refusal, layout_refusal, refusal, check_answer}
use Rattle.rules.specs.WholeRun.{Passed}
use Rattle.rules.specs.BenchSheet.{table, nat, nat_to_nat, nat_code, num, var, fun}
use Rattle.rules.specs.Limits.{codes, nested, LimitsPassed}
use Rattle.rules.proofs.General.{length_listed}
use Rattle.rules.proofs.Written.{GoodTable, term_passed}
use Rattle.rules.proofs.Sheets.{passed_by, passed_good}
use Rattle.rules.proofs.Bench.{sheet_holds}

codes_passed : Passed first_edition codes (num 7)
unfolding size listed table_of records_of laid joined program_bytes unless ◌then◌ lowest total judged walked form_refusal size_refusal layout_refusal refusal check_answer kind_of numbered tree_of
codes_passed = passed_by refl refl refl

nested_type : (n : ℕ) → type_of (nested n) ≡ nat_code
nested_type zero = refl
nested_type (suc n) = refl

nested_typed : (n : ℕ) → Typed table [] 0 (nested n)
unfolding Typed
nested_typed zero = (((omega arith, (refl, (refl, (refl, tt)))), tt, (refl, tt), (refl, tt)), ((omega arith, (refl, (refl, (omega arith, tt)))), tt, tt, (refl, tt)))
nested_typed (suc n) =
    (((omega arith, (refl, (refl, (refl, tt)))), tt, (refl, tt), (refl, tt)), (((omega arith, (refl, (refl, (refl, tt)))), tt, (refl, tt), (rw (nested_type n) refl, tt)), nested_typed n))

nested_size : (n : ℕ) → size (nested n) ≡ 2 + 2 * n
unfolding size
nested_size zero = refl
nested_size (suc n) = omega (arith, nested_size n)

good : GoodTable table
good = passed_good first_edition (omega arith) table _ sheet_holds.0.passed

pub limits_passed : LimitsPassed
limits_passed = record {
  types = ap suc (length_listed Code 1 255);
  types_passed = codes_passed;
  records = nested_size 1023;
  records_passed = term_passed table (nested 1023) good (nested_typed 1023) (omega (arith, nested_size 1023)) first_edition (omega arith);
}

-- The index of the variable in a chain of records with one child.
index_in : Term → ℕ
index_in (leaf k f) = f.a
index_in (unary k f t) = index_in t
index_in (binary k f t u) = 0
index_in (ternary k f t s e) = 0

-- A function whose variable has index 65536, which names no binder, is not passed, though the bytes that are written of it are: sixteen bits cut
-- the index to 0.
pub cut_index_passed_not : Passed first_edition table (fun nat_to_nat nat (var nat 65536)) → ⊥
unfolding size listed table_of records_of laid joined program_bytes kind_of numbered tree_of index_in
cut_index_passed_not p = let e : ◌≡◌ {A = ℕ} 0 65536 = ap index_in p.term_back in omega arith
