-- The bench sheet holds: each case is passed, and the rules' whole run of it, which is computed, is as the sheet says.
use Prim.Native.Nat.{ℕ, zero, suc, ◌+◌, ◌*◌, ◌≤◌}
use mathlib.Core.List.{[], ◌∷◌, map}
use mathlib.Core.Bool.{false}
use mathlib.Core.Option.{some}
use mathlib.Core.Path.{◌≡◌, refl, ap, ◌∙◌}
use native.Mathlib.Omega.{arith}
use lib.Dec.{ltb, ltb→lt, lit≤}
use lib.ListN.{length}
use Rattle.rules.specs.Lists.{All, listed, joined, total}
use Rattle.rules.specs.Kinds.{kind_of, numbered}
use Rattle.rules.specs.Terms.{size}
use Rattle.rules.specs.Indices.{changed, raised, replaced, wrapped, summed, gave_way}
use Rattle.rules.specs.Values.{plain, value}
use Rattle.rules.specs.Matching.{matched}
use Rattle.rules.specs.Contractions.{on_fix, rule_number}
use Rattle.rules.specs.Steps.{Event, at_root, further, Step}
use Rattle.rules.specs.Next.{waits, next}
use Rattle.rules.specs.Format.{most_records, table_of, records_of, program_bytes}
use Rattle.rules.specs.Links.{laid, tree_of}
use Rattle.rules.specs.Refusals.{unless, ◌then◌, lowest}
use Rattle.rules.specs.Check.{judged, walked, form_refusal, size_refusal, layout_refusal, refusal, check_answer}
use Rattle.rules.specs.Traces.{total_of, replaced_total}
use Rattle.rules.specs.Run.{Course, Outcome, spent, full, after_step, course, outcome_of, run}
use Rattle.rules.specs.BenchSheet.{table, nat, identity, fixed, grow, grown, short, long, sheet, Kept}
use Rattle.rules.specs.Slips.{slips}
use Rattle.rules.proofs.General.{is_false, ◌&◌, all_append}
use Rattle.rules.proofs.Agree.{agree}
use Rattle.rules.proofs.Courses.{course_more}
use Rattle.rules.proofs.Sheets.{passed_by, Computed, each_kept}

short_computed : All Computed short
unfolding changed raised replaced wrapped size plain value summed gave_way matched waits next total_of course listed table_of records_of laid joined program_bytes unless ◌then◌ lowest total judged walked form_refusal size_refusal layout_refusal refusal check_answer kind_of numbered tree_of
short_computed =
    record { passed = passed_by refl refl refl; comes_to = refl; counted = refl }
    & record { passed = passed_by refl refl refl; comes_to = refl; counted = refl }
    & record { passed = passed_by refl refl refl; comes_to = refl; counted = refl }
    & record { passed = passed_by refl refl refl; comes_to = refl; counted = refl }
    & record { passed = passed_by refl refl refl; comes_to = refl; counted = refl }
    & record { passed = passed_by refl refl refl; comes_to = refl; counted = refl }
    & record { passed = passed_by refl refl refl; comes_to = refl; counted = refl }
    & record { passed = passed_by refl refl refl; comes_to = refl; counted = refl }
    & tt

-- The events of K1 to K8, by place, rule number and replaced variables. In K6 the wrapped use of the matched function's variable counts when that
-- is applied.
pub record Numbers : Type 0 where
  pub place : ℕ
  pub rule : ℕ
  pub replaced : ℕ

abbrev numbers_of : Event → Numbers
numbers_of e = record { place = e.place; rule = rule_number e.rule; replaced = e.replaced }

abbrev at : ℕ → ℕ → ℕ → Numbers
at p r n = record { place = p; rule = r; replaced = n }

pub short_traces : map (λ b. map numbers_of (course table b.fuel b.first).trace) short
    ≡ (at 1 1 1 ∷ [])
    ∷ []
    ∷ (at 1 1 2 ∷ at 1 9 1 ∷ at 3 4 0 ∷ [])
    ∷ (at 1 1 2 ∷ at 1 10 0 ∷ [])
    ∷ (at 1 10 0 ∷ [])
    ∷ (at 1 13 1 ∷ at 1 1 1 ∷ at 2 4 0 ∷ [])
    ∷ (at 4 7 0 ∷ at 3 4 0 ∷ [])
    ∷ (at 1 11 1 ∷ [])
    ∷ []
unfolding changed raised replaced wrapped summed gave_way size plain value matched waits next course
short_traces = refl

-- An outcome after one step more, in which one variable gives way; and after k of them.
abbrev one_more : Outcome → Outcome
one_more o = record { ending = o.ending; steps = suc o.steps; replaced = suc o.replaced; last = o.last }

abbrev many_more : ℕ → Outcome → Outcome
many_more k o = record { ending = o.ending; steps = k + o.steps; replaced = k + o.replaced; last = o.last }

step_more : (e : Event) (c : Course) → e.replaced ≡ 1 → outcome_of (after_step e c) ≡ one_more (outcome_of c)
unfolding total_of
step_more e c h = λ i. let p : e.replaced + replaced_total c.trace ≡ suc (replaced_total c.trace) = omega (arith, h) in
    record { ending = c.ending; steps = suc (length c.trace); replaced = p i; last = c.last }

-- K9 is its own next term, so that any fuel is spent.
fixed_next : next table 0 (fixed nat identity) ≡ some (record { event = at_root on_fix 1; term = fixed nat identity })
unfolding next waits value replaced summed gave_way changed raised size
fixed_next = refl

k9 : (fuel : ℕ) → run table fuel (fixed nat identity) ≡ record { ending = spent; steps = fuel; replaced = fuel; last = fixed nat identity }
unfolding course value size total_of
k9 zero = refl
k9 (suc fuel) = ap outcome_of (course_more table fuel (fixed nat identity) (at_root on_fix 1) (fixed nat identity) refl fixed_next refl)
    ∙ step_more (at_root on_fix 1) (course table fuel (fixed nat identity)) refl ∙ ap one_more (k9 fuel)

-- K10 and K11
grown_waits : (n : ℕ) → value (grown n) ≡ false
unfolding value
grown_waits zero = refl
grown_waits (suc n) = refl

-- The fix is the first record, then the third of each later term; its one use of the variable gives way.
abbrev unrolls : ℕ → Event
unrolls zero = at_root on_fix 1
unrolls (suc n) = further 3 (unrolls n)

one_unrolled : (n : ℕ) → (unrolls n).replaced ≡ 1
one_unrolled zero = refl
one_unrolled (suc n) = one_unrolled n

grown_next : (n : ℕ) → next table 0 (grown n) ≡ some (record { event = unrolls n; term = grown (suc n) })
unfolding next waits value replaced summed gave_way changed raised size
grown_next zero = refl
grown_next (suc n) = rw (grown_waits n, grown_next n, next)

-- "6 records, 3 more each step".
pub grown_steps : (n : ℕ) → Step table 0 (unrolls n) (grown n) (grown (suc n))
grown_steps n = (agree table 0 (unrolls n) (grown n) (grown (suc n))).0 (grown_next n)

pub grown_size : (n : ℕ) → size (grown n) ≡ 6 + 3 * n
unfolding size
grown_size zero = refl
grown_size (suc n) = omega (arith, grown_size n)

grown_fits : (n : ℕ) → 6 + 3 * n ≤ most_records → ltb most_records (size (grown n)) ≡ false
grown_fits n h = is_false (ltb most_records (size (grown n))) (λ b. omega (arith, ltb→lt most_records (size (grown n)) b, grown_size n))

grown_step : (k n : ℕ) → 6 + 3 * suc n ≤ most_records → run table (suc k) (grown n) ≡ one_more (run table k (grown (suc n)))
grown_step k n h = ap outcome_of (course_more table k (grown n) (unrolls n) (grown (suc n)) (grown_waits n) (grown_next n) (grown_fits (suc n) h))
    ∙ step_more (unrolls n) (course table k (grown (suc n))) (one_unrolled n)

none_more : (o : Outcome) → o ≡ many_more 0 o
none_more o = λ i. let e : (n : ℕ) → n ≡ 0 + n = λ n. omega arith in record { ending = o.ending; steps = e o.steps i; replaced = e o.replaced i; last = o.last }

one_more_lem : (k : ℕ) (o : Outcome) → one_more (many_more k o) ≡ many_more (suc k) o
one_more_lem k o = λ i. let e : (n : ℕ) → suc (k + n) ≡ suc k + n = λ n. omega arith in
    record { ending = o.ending; steps = e o.steps i; replaced = e o.replaced i; last = o.last }

-- k steps of fuel k + j
grown_runs : (k j n : ℕ) → 6 + 3 * (n + k) ≤ most_records → run table (k + j) (grown n) ≡ many_more k (run table j (grown (n + k)))
grown_runs zero j n h =
    let p : 0 + j ≡ j = omega arith in
    let q : n + 0 ≡ n = omega arith in
    rw (p, q) (none_more (run table j (grown n)))
grown_runs (suc k) j n h =
    let p : suc k + j ≡ suc (k + j) = omega arith in
    let q : n + suc k ≡ suc n + k = omega arith in
    rw (p, q) (grown_step (k + j) n (omega arith) ∙ ap one_more (grown_runs k j (suc n) (omega arith)) ∙ one_more_lem k (run table j (grown (suc n + k))))

k10 : run table 680 grow ≡ record { ending = spent; steps = 680; replaced = 680; last = grown 680 }
unfolding course value total_of
k10 = grown_runs 680 0 0 (lit≤ tt)

k11 : run table 681 grow ≡ record { ending = full; steps = 680; replaced = 680; last = grown 680 }
unfolding course value waits next size replaced summed gave_way changed raised total_of
k11 = grown_runs 680 1 0 (lit≤ tt)

k10_records : size (grown 680) ≡ 2046
k10_records = grown_size 680

-- With `course` shut, so that a slip here is not answered by computing two long runs.
long_computed : All Computed long
unfolding size listed table_of records_of laid joined program_bytes unless ◌then◌ lowest total judged walked form_refusal size_refusal layout_refusal refusal check_answer kind_of numbered tree_of
long_computed =
    record { passed = passed_by refl refl refl; comes_to = k9 1000; counted = refl }
    & record { passed = passed_by refl refl refl; comes_to = k10; counted = k10_records }
    & record { passed = passed_by refl refl refl; comes_to = k11; counted = k10_records }
    & tt

pub sheet_holds : All Kept sheet
sheet_holds = each_kept sheet (all_append Computed short long short_computed long_computed)

-- The cases for the slips that the sheet does not catch.
slips_computed : All Computed slips
unfolding changed raised replaced wrapped size plain value summed gave_way matched waits next total_of course listed table_of records_of laid joined program_bytes unless ◌then◌ lowest total judged walked form_refusal size_refusal layout_refusal refusal check_answer kind_of numbered tree_of
slips_computed =
    record { passed = passed_by refl refl refl; comes_to = refl; counted = refl }
    & record { passed = passed_by refl refl refl; comes_to = refl; counted = refl }
    & record { passed = passed_by refl refl refl; comes_to = refl; counted = refl }
    & record { passed = passed_by refl refl refl; comes_to = refl; counted = refl }
    & record { passed = passed_by refl refl refl; comes_to = refl; counted = refl }
    & record { passed = passed_by refl refl refl; comes_to = refl; counted = refl }
    & tt

pub slips_hold : All Kept slips
slips_hold = each_kept slips slips_computed
