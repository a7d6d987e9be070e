-- What is read off a run's events: how sums over them go on, and how large the total of the replaced variables can be.
use Prim.Native.Nat.{ℕ, ◌+◌, ◌*◌, ◌^◌, ◌≤◌, ◌<◌}
use native.Mathlib.Omega.{arith}
use mathlib.Core.List.{List, [], ◌∷◌, ◌++◌}
use mathlib.Core.Option.{none}
use mathlib.Core.Path.{◌≡◌, refl, sym, ap, ap₂}
use lib.ListN.{length}
use Rattle.rules.specs.Editions.{Edition, HasEveryKind}
use Rattle.rules.specs.Terms.{Term, size}
use Rattle.rules.specs.Types.{Table}
use Rattle.rules.specs.Steps.{Event, Steps, still, more}
use Rattle.rules.specs.Format.{most_records, table_of}
use Rattle.rules.specs.Links.{first_term}
use Rattle.rules.specs.Traces.{total_of, replaced_total}
use Rattle.rules.specs.Run.{RunAnswer, run_refusal, run_answer}
use Rattle.rules.specs.WholeRun.{EachTo, Makes}
use Rattle.rules.proofs.General.{tested_option}
use Rattle.rules.proofs.Tests.{both_pass}
use Rattle.rules.proofs.Agree.{deterministic, same_event}
use Rattle.rules.proofs.Events.{within}
use Rattle.rules.proofs.Meaning.{exactly}
use Rattle.rules.proofs.Whole.{program_run}

pub total_append : (f : Event → ℕ) (es fs : List Event) → total_of f (es ++ fs) ≡ total_of f es + total_of f fs
unfolding total_of
total_append f [] fs = omega arith
total_append f (e ∷ es) fs = omega (arith, total_append f es fs)

-- No more than 2,048 variables give way in a step, since no more records stand in its term.
module _ (types : Table) where
  steps_few : {es : List Event} {t u : Term} → Steps types es t u → EachTo types t (length es) (λ x. size x ≤ most_records) → replaced_total es ≤ most_records * length es
  unfolding total_of
  steps_few still h = omega arith
  steps_few {t = t} (more {e = e} d r) h = omega (arith, (within d).few, h [] t (omega arith) still, steps_few r (λ fs x b s. h (e ∷ fs) x (omega arith) (more d s)))

  pub makes_few : {fuel : ℕ} {es : List Event} {t u : Term} → Makes types t fuel es u → replaced_total es ≤ most_records * fuel
  makes_few k = omega (arith, steps_few k.made k.small, k.within)

-- "For any passed program and fuel the total is that of the rules' steps": of any as many steps as the run makes, there being no others.
same_trace : (types : Table) {es fs : List Event} {t u v : Term} → Steps types es t u → Steps types fs t v → length es ≡ length fs → es ≡ fs
same_trace types still still e = refl
same_trace types still (more d r) e = absurd (omega arith)
same_trace types (more d r) still e = absurd (omega arith)
same_trace types (more d r) (more d' r') e = ap₂ ◌∷◌ (same_event types d d') (same_trace types r (rw (deterministic types d' d) at r') (omega arith))

pub replaced_exactly : (edition : Edition) → HasEveryKind edition → (program : List ℕ) (fuel out_length work_length : ℕ) → run_refusal edition program out_length work_length ≡ none
    → (es : List Event) (u : Term) → Steps (table_of program) es (first_term program) u → length es ≡ (run_answer edition program fuel out_length work_length).steps
    → (run_answer edition program fuel out_length work_length).replaced ≡ replaced_total es
unfolding run_answer
replaced_exactly edition all program fuel out_length work_length n es u k e =
    let w = program_run edition all program ((exactly edition program).0 (both_pass _ _ n).1) fuel in
    rw (n, run_answer) (ap replaced_total (same_trace (table_of program) w.makes.made k (sym (rw (n, run_answer) at e))))

-- A fuel has 32 bits, so that the total that a run answers has 43.
pub replaced_below : (edition : Edition) → HasEveryKind edition → (program : List ℕ) (fuel out_length work_length : ℕ) → fuel < 2 ^ 32
    → (run_answer edition program fuel out_length work_length).replaced < 2 ^ 43
unfolding run_answer
replaced_below edition all program fuel out_length work_length l = tested_option (λ (a : RunAnswer). a.replaced < 2 ^ 43) (run_refusal edition program out_length work_length) _ _
    (λ e. omega (arith, makes_few (table_of program) (program_run edition all program ((exactly edition program).0 (both_pass _ _ e).1) fuel).makes))
    (λ r e. omega arith)
