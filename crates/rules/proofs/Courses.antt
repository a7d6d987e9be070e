-- The course of a run, by how it goes on from a term.
use Prim.Native.Nat.{ℕ, zero, suc}
use mathlib.Core.Bool.{true, false}
use mathlib.Core.Option.{some}
use mathlib.Core.Path.{◌≡◌}
use lib.Dec.{ltb}
use Rattle.rules.specs.Terms.{Term, size}
use Rattle.rules.specs.Types.{Table}
use Rattle.rules.specs.Values.{value}
use Rattle.rules.specs.Steps.{Event}
use Rattle.rules.specs.Next.{next}
use Rattle.rules.specs.Format.{most_records}
use Rattle.rules.specs.Run.{valued, spent, full, ended, after_step, course}

module _ (types : Table) where
  pub course_value : (fuel : ℕ) (t : Term) → value t ≡ true → course types fuel t ≡ ended valued t
  unfolding course
  course_value zero t v = rw (v, course)
  course_value (suc fuel) t v = rw (v, course)

  pub course_spent : (t : Term) → value t ≡ false → course types 0 t ≡ ended spent t
  unfolding course
  course_spent t v = rw (v, course)

  module _ (fuel : ℕ) (t : Term) (e : Event) (u : Term) (v : value t ≡ false) (n : next types 0 t ≡ some (record { event = e; term = u })) where
    pub course_full : ltb most_records (size u) ≡ true → course types (suc fuel) t ≡ ended full t
    unfolding course
    course_full l = rw (v, course) (rw n (rw l))

    pub course_more : ltb most_records (size u) ≡ false → course types (suc fuel) t ≡ after_step e (course types fuel u)
    unfolding course
    course_more l = rw (v, course) (rw n (rw l))
