-- Demand 3 by document 02, N4: crate rules' `WholeRun`, its last term written in order of use.
use Rattle.std.specs.Prelude.{ℕ, ◌≤◌, List, ◌≡◌, length}
use Rattle.rules.specs.Editions.{Edition}
use Rattle.rules.specs.Terms.{Term}
use Rattle.rules.specs.Types.{Table}
use Rattle.rules.specs.Format.{table_of}
use Rattle.rules.specs.Links.{first_term}
use Rattle.rules.specs.Run.{Course, written_over}
use Rattle.rules.specs.WholeRun.{Passed, WholeRun}
use Rattle.order.specs.Lists.{Any}
use Rattle.order.specs.FullTypes.{NamesType, in_full, PartOf}
use Rattle.order.specs.Order.{types_named, written_table, written_term}
use Rattle.order.specs.Alike.{SameTerm}
use Rattle.order.specs.RunInOrder.{output_in_order, accepted_in_order, run_answer_in_order, run_output_in_order}

-- What is written for t over a table in order of use, document 02, N4: it is passed and reads back; it is t, each type the same in full; and the written
-- table "has only types that the written records or their parts need".
pub record WrittenInOrder (edition : Edition) (types : Table) (t : Term) : Type 0 where
  pub passed : Passed edition (written_table types t) (written_term types t)
  pub same : SameTerm types (written_table types t) t (written_term types t)
  pub needs_each : (n : ℕ) → NamesType (written_table types t) n → Any (λ x. PartOf (in_full (written_table types t) n) (in_full (written_table types t) x)) (types_named (written_term types t))

-- What is claimed of each accepted run, by the definitions of `RunInOrder`: its answer and its output buffer are those of a whole run, the number of its
-- steps and the total of what gave way in them among the rest, and its last term is written in order of use.
pub record Demand3InOrder (edition : Edition) (program : List ℕ) (fuel : ℕ) (out : List ℕ) (work_length : ℕ) : Type 0 where
  pub course : Course
  pub whole : WholeRun edition (table_of program) (first_term program) fuel course
  pub answers : run_answer_in_order edition program fuel (length out) work_length ≡ accepted_in_order (table_of program) course
  pub writes : run_output_in_order edition program fuel out work_length ≡ written_over out (output_in_order (table_of program) course.last)
  pub fits : length (output_in_order (table_of program) course.last) ≤ length out
  pub in_order : WrittenInOrder edition (table_of program) course.last
