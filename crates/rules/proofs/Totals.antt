-- The cases for the total of the replaced variables hold: each is passed, and the rules' whole run of it, which is computed, comes to that total.
use Prim.Native.Nat.{ℕ, zero, suc, ◌+◌, ◌*◌}
use mathlib.Core.Path.{◌≡◌, refl, ap, ◌∙◌}
use native.Mathlib.Omega.{arith}
use Rattle.rules.specs.Lists.{All, listed, joined, total}
use Rattle.rules.specs.Kinds.{kind_of, numbered}
use Rattle.rules.specs.Terms.{size}
use Rattle.rules.specs.Indices.{changed, raised, replaced, wrapped, summed, gave_way}
use Rattle.rules.specs.Values.{plain, value}
use Rattle.rules.specs.Matching.{matched}
use Rattle.rules.specs.Next.{waits, next}
use Rattle.rules.specs.Format.{table_of, records_of, program_bytes}
use Rattle.rules.specs.Links.{laid, tree_of}
use Rattle.rules.specs.Refusals.{unless, ◌then◌, lowest}
use Rattle.rules.specs.Check.{judged, walked, form_refusal, size_refusal, layout_refusal, refusal, check_answer}
use Rattle.rules.specs.Traces.{total_of}
use Rattle.rules.specs.Run.{Outcome, spent, course, run}
use Rattle.rules.specs.BenchSheet.{table, Kept}
use Rattle.rules.specs.Totals.{cycling, short_totals, long_totals, totals}
use Rattle.rules.proofs.General.{◌&◌, all_append}
use Rattle.rules.proofs.Sheets.{passed_by, Computed, each_kept}

-- An outcome after the three steps.
abbrev one_cycle : Outcome → Outcome
one_cycle o = record { ending = o.ending; steps = suc (suc (suc o.steps)); replaced = 1 + (5 + (0 + o.replaced)); last = o.last }

-- Three steps of the long case, whatever the fuel.
cycle_steps : (n : ℕ) → run table (suc (suc (suc n))) cycling ≡ one_cycle (run table n cycling)
unfolding changed raised replaced wrapped size plain value summed gave_way matched waits next total_of course
cycle_steps n = refl

cycles : (n : ℕ) → run table (3 * n) cycling ≡ record { ending = spent; steps = 3 * n; replaced = 6 * n; last = cycling }
unfolding value total_of course
cycles zero = refl
cycles (suc n) =
    let p : 3 * suc n ≡ suc (suc (suc (3 * n))) = omega arith in
    let q : 1 + (5 + (0 + 6 * n)) ≡ 6 * suc n = omega arith in
    rw (p, ← q) (cycle_steps (3 * n) ∙ ap one_cycle (cycles n))

short_computed : All Computed short_totals
unfolding changed raised replaced wrapped size plain value summed gave_way matched waits next total_of course listed table_of records_of laid joined program_bytes unless ◌then◌ lowest total judged walked form_refusal size_refusal layout_refusal refusal check_answer kind_of numbered tree_of
short_computed =
    record { passed = passed_by refl refl refl; comes_to = refl; counted = refl }
    & record { passed = passed_by refl refl refl; comes_to = refl; counted = refl }
    & tt

long_computed : All Computed long_totals
unfolding size listed table_of records_of laid joined program_bytes unless ◌then◌ lowest total judged walked form_refusal size_refusal layout_refusal refusal check_answer kind_of numbered tree_of
long_computed = record { passed = passed_by refl refl refl; comes_to = cycles 1431655765; counted = refl } & tt

pub totals_hold : All Kept totals
totals_hold = each_kept totals (all_append Computed short_totals long_totals short_computed long_computed)
