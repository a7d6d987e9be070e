-- What a run answers and writes by document 02, N4: crate rules' `Run` with its table in order of use.
use Rattle.std.specs.Prelude.{ℕ, List, length}
use Rattle.std.proofs.Math.Option.{none, some}
use Rattle.rules.specs.Editions.{Edition}
use Rattle.rules.specs.Terms.{Term, type_of}
use Rattle.rules.specs.Types.{Table}
use Rattle.rules.specs.Format.{table_of}
use Rattle.rules.specs.Links.{written}
use Rattle.rules.specs.Traces.{replaced_total}
use Rattle.rules.specs.Run.{ending_number, Course, program_course, written_over, run_refusal, RunAnswer, refused}
use Rattle.order.specs.Order.{written_table, written_term}

-- "It writes the same type table and the last term", the table, by document 02, N4, in order of use: what a run under this table that ends with t writes.
abbrev pub output_in_order : Table → Term → List ℕ
output_in_order types t = written (written_table types t) (written_term types t)

-- "An accepted run returns ending, n, root type and written length. Every accepted answer has number and place 0." By N2 "the result carries the total"
-- of the replaced variables "for all its steps"; by N4 "the root type that a run .. returns is a number in the written table".
abbrev pub accepted_in_order : Table → Course → RunAnswer
accepted_in_order types c = record {
  number = 0;
  place = 0;
  ending = ending_number c.ending;
  steps = length c.trace;
  root_type = type_of (written_term types c.last);
  written = length (output_in_order types c.last);
  replaced = replaced_total c.trace;
}

unfoldable pub run_answer_in_order : Edition → List ℕ → ℕ → ℕ → ℕ → RunAnswer
run_answer_in_order edition program fuel out_length work_length = elim (run_refusal edition program out_length work_length) [
  | none ↦ accepted_in_order (table_of program) (program_course program fuel)
  | some r ↦ refused r.number r.place
]

-- The output buffer after the call; of a refused call "buffers are untouched".
unfoldable pub run_output_in_order : Edition → List ℕ → ℕ → List ℕ → ℕ → List ℕ
run_output_in_order edition program fuel out work_length = elim (run_refusal edition program (length out) work_length) [
  | none ↦ written_over out (output_in_order (table_of program) (program_course program fuel).last)
  | some r ↦ out
]
