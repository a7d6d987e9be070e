-- The answer of infer as document 02's, field by field, and what infer ensures.
use Rattle.std.specs.Prelude.{ℕ, suc, ◌*◌, ◌≤◌, List, ◌≡◌, length, drop}
use Rattle.rules.specs.Editions.{first_edition}
use Rattle.rules.specs.Terms.{Term, type_of}
use Rattle.rules.specs.Types.{Table}
use Rattle.rules.specs.FieldUses.{omitted}
use Rattle.rules.specs.Format.{most_types, most_records}
use Rattle.rules.specs.Meets.{MeetsLayout}
use Rattle.rules.specs.Refusals.{Refusal as MeantRefusal}
use Rattle.rules.specs.Run.{output_needed, work_needed}
use Rattle.inference.specs.Inference.{types_of, faulty, filled}
use Rattle.inference.specs.Infer.{InferAnswer as MeantInferAnswer, answer_of, output_of, inference, inference_lent, infer_answer, infer_output, Answered}
use Rattle.records.specs.View.{entries_in}
use Rattle.refusals.specs.declared.reasons.Refusal.{Refusal}
use Rattle.refusals.specs.Reports.{refusal_meant}
use Rattle.infer_call.specs.declared.InferAnswer.{InferAnswer}

abbrev pub infer_meant : InferAnswer → MeantInferAnswer
infer_meant r = record { number = r.number; place = r.place; root_type = r.root_type; written = r.written }

abbrev pub refused_by : Refusal → MeantInferAnswer
refused_by refusal = answer_of (faulty (refusal_meant refusal))

-- The program's layout is good, the output has room for any program, and the work buffer is what is used of it.
pub record CanType (program out work : List ℕ) : Type 0 where
  pub layout : MeetsLayout omitted first_edition program
  pub room : output_needed ≤ length out
  pub long : length work ≡ work_needed

-- And there is room for a table of 257 entries, and for the types of as many records as a program may have.
pub record CanTypeWith (program out work bytes given : List ℕ) : Type 0 where
  pub can : CanType program out work
  pub entries : length bytes ≡ 6 * suc most_types
  pub types : length given ≡ most_records

-- The inference of the program is filled, and what it fills is the table, the types in preorder and the root's type.
pub record CanWriteFilled (program out work table given : List ℕ) (root : ℕ) : Type 0 where
  pub can : CanType program out work
  pub term : Term
  pub is : inference first_edition program ≡ filled (entries_in table) term
  pub few : length (entries_in table) ≤ most_types
  pub entries : length table ≡ 6 * length (entries_in table)
  pub type : root ≡ type_of term
  pub types : given ≡ types_of term

-- The answer, every byte of the output buffer, and that a fault changes nothing.
pub record Types (program out out' work work' : List ℕ) (r : InferAnswer) : Type 0 where
  pub answer : infer_meant r ≡ answer_of (inference first_edition program)
  pub output : out' ≡ output_of (inference first_edition program) out
  pub faulted : (q : MeantRefusal) → inference first_edition program ≡ faulty q → work' ≡ work

-- What infer ensures for the first edition, of the program and the buffers before the call, its answer, and the buffers after it. The answer and every byte of
-- the output buffer are the definitions'. Of the work buffer, the first 65,536 bytes after an accepted call are free, which is the sole freedom; a refused
-- call changes nothing. What is written for an accepted program is a filling of it that passes.
pub record Inferred (program out work : List ℕ) (r : InferAnswer) (out' work' : List ℕ) : Type 0 where
  pub answer : infer_meant r ≡ infer_answer first_edition program (length out) (length work)
  pub output : out' ≡ infer_output first_edition program out (length work)
  pub work_length : length work' ≡ length work
  pub work_beyond : drop work_needed work' ≡ drop work_needed work
  pub work_refused : (q : MeantRefusal) → inference_lent first_edition program (length out) (length work) ≡ faulty q → work' ≡ work
  pub passes : (A : Table) (t : Term) → inference_lent first_edition program (length out) (length work) ≡ filled A t → Answered first_edition program A t
