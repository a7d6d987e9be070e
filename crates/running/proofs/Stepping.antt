-- A run by its steps: what the definition of a run says of a run that stands at t after steps with the events es.
use Prim.Native.Nat.{ℕ, suc, ◌+◌, ◌-◌, ◌≤◌, ◌<◌}
use native.Mathlib.Omega.{arith}
use mathlib.Core.Bool.{true, false}
use mathlib.Core.List.{List, [], ◌∷◌, ◌++◌, append_assoc, append-nil}
use mathlib.Core.Option.{some}
use mathlib.Core.Path.{◌≡◌, sym, ap, ◌∙◌}
use borrow.Author.Tests.{lt-ltb, le-ltb}
use lib.ListN.{length, length-append}
use Rattle.rules.specs.Terms.{Term, size}
use Rattle.rules.specs.Types.{Table}
use Rattle.rules.specs.Values.{value}
use Rattle.rules.specs.Steps.{Event}
use Rattle.rules.specs.Next.{next}
use Rattle.rules.specs.Format.{most_records}
use Rattle.rules.specs.Run.{Ending, Course, valued, spent, full, ended, after_step, course}
use Rattle.rules.proofs.Courses.{course_value, course_spent, course_full, course_more}
use Rattle.running.specs.Running.{after_steps, ended_after, Running}

-- One step more.
abbrev pub extended : List Event → Event → List Event
extended es e = es ++ (e ∷ [])

pub one_longer : (es : List Event) (e : Event) → length (extended es e) ≡ length es + 1
one_longer es e = length-append es (e ∷ [])

after_more : (es : List Event) (e : Event) (c : Course) → after_steps es (after_step e c) ≡ after_steps (extended es e) c
after_more es e c = λ i. record { ending = c.ending; trace = sym (append_assoc es (e ∷ []) c.trace) i; last = c.last }

after_ended : (es : List Event) (e : Ending) (t : Term) → after_steps es (ended e t) ≡ ended_after es e t
after_ended es e t = λ i. record { ending = e; trace = append-nil es i; last = t }

module _ (types : Table) (fuel : ℕ) (first : Term) where
  pub run_starts : Running types fuel first [] first
  run_starts = record { within = omega arith; left = let e : fuel - 0 ≡ fuel = omega arith in rw e }

  module _ (es : List Event) (t : Term) (r : Running types fuel first es t) where
    -- With so much fuel left, the course is that of t after the steps that are made.
    left_with : (k : ℕ) → fuel - length es ≡ k → course types fuel first ≡ after_steps es (course types k t)
    left_with k e = r.left ∙ ap (λ n. after_steps es (course types n t)) e

    pub ends_value : value t ≡ true → course types fuel first ≡ ended_after es valued t
    ends_value v = r.left ∙ ap (after_steps es) (course_value types (fuel - length es) t v) ∙ after_ended es valued t

    pub ends_spent : fuel ≤ length es → value t ≡ false → course types fuel first ≡ ended_after es spent t
    ends_spent l v = left_with 0 (omega arith) ∙ ap (after_steps es) (course_spent types t v) ∙ after_ended es spent t

    module _ (d : Event) (u : Term) (l : length es < fuel) (v : value t ≡ false) (e : next types 0 t ≡ some (record { event = d; term = u })) where
      abbrev rest : ℕ
      rest = fuel - (length es + 1)

      pub ends_full : most_records < size u → course types fuel first ≡ ended_after es full t
      ends_full s = left_with (suc rest) (omega arith) ∙ ap (after_steps es) (course_full types rest t d u v e (lt-ltb most_records (size u) s)) ∙ after_ended es full t

      pub goes_on : size u ≤ most_records → Running types fuel first (extended es d) u
      goes_on s = record {
        within = omega (arith, one_longer es d);
        left = left_with (suc rest) (omega arith) ∙ ap (after_steps es) (course_more types rest t d u v e (le-ltb most_records (size u) s)) ∙ after_more es d (course types rest u)
            ∙ ap (λ n. after_steps (extended es d) (course types (fuel - n) u)) (sym (one_longer es d));
      }
