-- What infer answers and writes by document 02, N4: crate inference's `Infer` with its table in order of use.
use Rattle.std.specs.Prelude.{ℕ, List, ◌≡◌, length}
use Rattle.rules.specs.Editions.{Edition}
use Rattle.rules.specs.Terms.{Term, size, type_of}
use Rattle.rules.specs.Types.{Table}
use Rattle.rules.specs.FieldUses.{omitted}
use Rattle.rules.specs.Format.{record_count, table_of}
use Rattle.rules.specs.Links.{first_term}
use Rattle.rules.specs.Run.{written_over}
use Rattle.inference.specs.Inference.{cleared, Inference, faulty, filled}
use Rattle.inference.specs.Infer.{InferAnswer, inference_lent, Filling}
use Rattle.order.specs.Order.{written_table, written_term}
use Rattle.order.specs.Alike.{Alike, SameFields}
use Rattle.order.specs.RunInOrder.{output_in_order}
use Rattle.order.specs.WholeRun.{WrittenInOrder}

-- "Returning root type and length"; by N4 "the root type that .. N1's call returns is a number in the written table", and "N1's call writes so too": the table
-- in order of use. A refusal has number and place, its other fields 0.
abbrev pub answer_in_order : Inference → InferAnswer
answer_in_order (faulty r) = record { number = r.number; place = r.place; root_type = 0; written = 0 }
answer_in_order (filled types t) = record { number = 0; place = 0; root_type = type_of (written_term types t); written = length (output_in_order types t) }

-- "Bytes beyond the written program stay unchanged"; a refused call changes nothing.
abbrev pub bytes_in_order : Inference → List ℕ → List ℕ
bytes_in_order (faulty r) out = out
bytes_in_order (filled types t) out = written_over out (output_in_order types t)

unfoldable pub infer_answer_in_order : Edition → List ℕ → ℕ → ℕ → InferAnswer
infer_answer_in_order edition program out_length work_length = answer_in_order (inference_lent edition program out_length work_length)

unfoldable pub infer_output_in_order : Edition → List ℕ → List ℕ → ℕ → List ℕ
infer_output_in_order edition program out work_length = bytes_in_order (inference_lent edition program (length out) work_length) out

-- What is filled and written for a program: a filling of its tree, of as many records, which is written in order of use: "the output passes, and clearing
-- its types gives the input's tree back", each binder's type the same in full.
pub record AnsweredInOrder (edition : Edition) (program : List ℕ) (A : Table) (t : Term) : Type 0 where
  pub filling : Filling (table_of program) (first_term program) A t
  pub records : size t ≡ record_count program
  pub in_order : WrittenInOrder edition A t
  pub back : Alike (SameFields omitted (table_of program) (written_table A t)) (first_term program) (cleared (written_term A t))
