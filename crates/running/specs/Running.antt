-- Where a run stands after some steps: its course is these steps and then the course of the term that it holds, with the fuel that is left.
use Rattle.std.specs.Prelude.{ℕ, ◌-◌, ◌≤◌, List, ◌++◌, ◌≡◌, length}
use Rattle.rules.specs.Terms.{Term}
use Rattle.rules.specs.Types.{Table}
use Rattle.rules.specs.Steps.{Event}
use Rattle.rules.specs.Run.{Ending, Course, course}

-- The course of a run that makes steps with these events and then goes on as c; and of one that ends then.
abbrev pub after_steps : List Event → Course → Course
after_steps es c = record { ending = c.ending; trace = es ++ c.trace; last = c.last }

abbrev pub ended_after : List Event → Ending → Term → Course
ended_after es e t = record { ending = e; trace = es; last = t }

pub record Running (types : Table) (fuel : ℕ) (first : Term) (es : List Event) (t : Term) : Type 0 where
  pub within : length es ≤ fuel
  pub left : course types fuel first ≡ after_steps es (course types (fuel - length es) t)
