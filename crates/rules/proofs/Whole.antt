-- The run keeps demand 3.
use Prim.Native.Nat.{ℕ, zero, suc, ◌≤◌, ◌<◌}
use native.Mathlib.Omega.{arith}
use mathlib.Core.List.{List, [], ◌∷◌}
use mathlib.Core.Option.{none, IsSome}
use mathlib.Core.Path.{◌≡◌, refl, ◌∙◌, ap, subst}
use mathlib.Core.Logic.{◌⊎◌, inl, inr}
use lib.Dec.{T, T_not, ltb, ltb→lt, nltb→le}
use lib.ListN.{length}
use Rattle.rules.specs.Editions.{Edition, HasEveryKind}
use Rattle.rules.specs.Terms.{Term, size, type_of}
use Rattle.rules.specs.Types.{Table, NoTwins}
use Rattle.rules.specs.FieldUses.{given}
use Rattle.rules.specs.Typing.{Typed}
use Rattle.rules.specs.Values.{value}
use Rattle.rules.specs.Steps.{Event, Step, Steps, still, more}
use Rattle.rules.specs.Next.{next}
use Rattle.rules.specs.Format.{most_records, table_of}
use Rattle.rules.specs.Links.{first_term}
use Rattle.rules.specs.Refusals.{output_short}
use Rattle.rules.specs.Meets.{Meets}
use Rattle.rules.specs.Run.{Ending, valued, spent, full, Course, ended, after_step, course, program_course, run_refusal, run_answer, run_output}
use Rattle.rules.specs.WholeRun.{Passed, Overfull, Ends, EachTo, Makes, WholeRun, Demand3}
use Rattle.rules.proofs.General.{tested, tested_option}
use Rattle.rules.proofs.Preserved.{preserved, run_preserved}
use Rattle.rules.proofs.Tests.{both_pass, holds_unless}
use Rattle.rules.proofs.Agree.{agree, deterministic, same_event, rests}
use Rattle.rules.proofs.Progress.{goes}
use Rattle.rules.proofs.Meaning.{exactly, unlike, root_size}
use Rattle.rules.proofs.Laid.{length_laid}
use Rattle.rules.proofs.Written.{back, term_passed, layout_table}

module _ (types : Table) where
  each_first : {t : Term} (P : Term → Type 0) → P t → EachTo types t 0 P
  each_first P h es x b still = h
  each_first P h es x b (more s r) = absurd (omega arith)

  each_next : {e : Event} {t u : Term} {n : ℕ} (P : Term → Type 0) → Step types 0 e t u → P t → EachTo types u n P → EachTo types t (suc n) P
  each_next P d p h es x b still = p
  each_next P d p h es x b (more {es = fs} s r) = h fs x (omega arith) (rw (deterministic types s d) at r)

  -- A value, or a term whose next one is too large, makes no more steps.
  no_more : {t : Term} {fuel : ℕ} → ((e : Event) (u : Term) → Step types 0 e t u → size u ≤ most_records → ⊥) → (es : List Event) (x : Term) → Makes types t fuel es x → length es ≤ 0
  no_more {t} h [] x k = omega arith
  no_more {t} h (e ∷ es) x k = absurd (go k.made k.small)
    where
      go : {e : Event} {es : List Event} {x : Term} → Steps types (e ∷ es) t x → EachTo types t (suc (length es)) (λ y. size y ≤ most_records) → ⊥
      go (more {e = e} {u = u} s r) small = h e u s (small (e ∷ []) u (omega arith) (more s still))

  rest_of : {e e' : Event} {es : List Event} {t u x : Term} → Step types 0 e t u → Steps types (e' ∷ es) t x → Steps types es u x
  rest_of d (more s r) = rw (deterministic types s d) at r

  one_less : {e e' : Event} {es : List Event} {t u : Term} {fuel : ℕ} {x : Term} → Step types 0 e t u → Makes types t (suc fuel) (e' ∷ es) x → Makes types u fuel es x
  one_less {e} d k = record { made = rest_of d k.made; within = omega (arith, k.within); small = λ fs y b r. k.small (e ∷ fs) y (omega arith) (more d r) }

  more_ends : (fuel n : ℕ) (t : Term) (e : Ending) → Ends types fuel e n t → Ends types (suc fuel) e (suc n) t
  more_ends fuel n t valued h = h
  more_ends fuel n t spent (h, e) = (h, omega arith)
  more_ends fuel n t full (h, b, o) = (h, omega arith, o)

  module _ (edition : Edition) (unlike : NoTwins types) (passes : (t : Term) → Typed types [] 0 t → size t ≤ most_records → Passed edition types t) where
    halts : (t : Term) (fuel : ℕ) (e : Ending) → Typed types [] 0 t → size t ≤ most_records → ((es : List Event) (x : Term) → Makes types t fuel es x → length es ≤ 0)
        → (0 < fuel → T (value t) ⊎ Overfull types t) → Ends types fuel e 0 t → WholeRun edition types t fuel (ended e t)
    halts t fuel e h b most stop end = record {
      makes = record { made = still; within = omega arith; small = each_first (λ x. size x ≤ most_records) b };
      largest = most;
      passed = each_first (λ x. Passed edition types x × (type_of x ≡ type_of t)) (passes t h b, refl);
      stops = stop;
      ends = end;
    }

    goes_on : {e : Event} {t u : Term} {fuel : ℕ} {c : Course} → Typed types [] 0 t → size t ≤ most_records → Step types 0 e t u → type_of u ≡ type_of t
        → WholeRun edition types u fuel c → WholeRun edition types t (suc fuel) (after_step e c)
    goes_on {e} {t} {u} {fuel} {c} h b d i w = record {
      makes = record { made = more d w.makes.made; within = omega (arith, w.makes.within); small = each_next (λ x. size x ≤ most_records) d b w.makes.small };
      largest = largest;
      passed = each_next (λ x. Passed edition types x × (type_of x ≡ type_of t)) d (passes t h b, refl) (λ es x j s. ((w.passed es x j s).0, (w.passed es x j s).1 ∙ i));
      stops = λ j. w.stops (omega arith);
      ends = more_ends fuel (length c.trace) c.last c.ending w.ends;
    }
      where
        largest : (es : List Event) (x : Term) → Makes types t (suc fuel) es x → length es ≤ suc (length c.trace)
        largest [] x k = omega arith
        largest (f ∷ es) x k = omega (arith, w.largest es x (one_less d k))

    pub whole : (fuel : ℕ) (t : Term) → Typed types [] 0 t → size t ≤ most_records → WholeRun edition types t fuel (course types fuel t)
    unfolding course
    whole zero t h b = tested (WholeRun edition types t 0) (value t) _ _
        (λ v. halts t 0 valued h b (λ es x k. k.within) (λ i. inl v) v)
        (λ v. halts t 0 spent h b (λ es x k. k.within) (λ i. absurd (omega arith)) (T_not (value t) v, refl))
    whole (suc fuel) t h b = tested (WholeRun edition types t (suc fuel)) (value t) _ _
        (λ v. halts t (suc fuel) valued h b (no_more (λ e u s i. rests types s v)) (λ i. inl v) v)
        (λ v. tested_option (WholeRun edition types t (suc fuel)) (next types 0 t) _ _
        (λ e. absurd (subst IsSome e (goes types 0 [] t (omega arith) tt h v)))
        (λ m q. let u = m.term in
        let d = (agree types 0 m.event t u).0 q in
        tested (WholeRun edition types t (suc fuel)) (ltb most_records (size u)) _ _
        (λ l. let o : Overfull types t = record { following = u; event = m.event; step = d; only = λ e x s. (same_event types s d, deterministic types s d); large = ltb→lt most_records (size u) l } in
        halts t (suc fuel) full h b (no_more (λ e x s i. omega (arith, ap size (deterministic types s d), ltb→lt most_records (size u) l))) (λ i. inr o) (T_not (value t) v, omega arith, o))
        (λ l. let (h', e') = preserved types unlike d [] h in
        goes_on h b d e' (whole fuel u h' (nltb→le most_records (size u) l)))))

-- The run of a program that meets the rules.
module _ (edition : Edition) (all : HasEveryKind edition) (program : List ℕ) (m : Meets edition program) (fuel : ℕ) where
  no_twins : NoTwins (table_of program)
  no_twins = unlike (table_of program) m.layout.form.entries

  pub program_run : WholeRun edition (table_of program) (first_term program) fuel (program_course program fuel)
  program_run = whole (table_of program) edition no_twins (λ t h b. term_passed (table_of program) t (layout_table given edition program m.layout) h b edition all)
      fuel (first_term program) m.typed (omega (arith, root_size edition program m, m.layout.counts.1.0))

  pub last_typed : Typed (table_of program) [] 0 (program_course program fuel).last × (type_of (program_course program fuel).last ≡ type_of (first_term program))
  last_typed = run_preserved (table_of program) no_twins program_run.makes.made [] m.typed

  pub last_type : type_of (program_course program fuel).last ≡ type_of (first_term program)
  last_type = last_typed.1

  pub last_small : size (program_course program fuel).last ≤ most_records
  last_small = program_run.makes.small (program_course program fuel).trace (program_course program fuel).last (omega arith) program_run.makes.made

-- Demand 3: every accepted run, whatever the buffers hold.
module _ (edition : Edition) (all : HasEveryKind edition) (program : List ℕ) (fuel : ℕ) (out : List ℕ) (work_length : ℕ) (unrefused : run_refusal edition program (length out) work_length ≡ none) where
  m : Meets edition program
  m = (exactly edition program).0 (both_pass _ _ unrefused).1

  pub demand_3 : Demand3 edition program fuel out work_length
  unfolding run_answer run_output
  demand_3 =
      let table = layout_table given edition program m.layout in
      let typed = (last_typed edition all program m fuel).0 in
      let small = last_small edition all program m fuel in
      let b = back (table_of program) (program_course program fuel).last table typed small in
      let (o, _) = holds_unless _ output_short 0 (both_pass _ _ (both_pass _ _ unrefused).0).0 in
      record {
        course = program_course program fuel;
        whole = program_run edition all program m fuel;
        answers = rw (unrefused, run_answer);
        writes = rw (unrefused, run_output);
        fits = omega (arith, b.length_back, length_laid 1 0 (program_course program fuel).last, small, table.few);
      }
