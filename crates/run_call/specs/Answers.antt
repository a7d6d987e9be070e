-- The answer of a run as document 01's, field by field, and what a run ensures.
use Rattle.std.specs.Prelude.{ℕ, List, ◌≡◌, length, drop}
use Rattle.std.proofs.Math.Option.{none, some}
use Rattle.rules.specs.Editions.{first_edition}
use Rattle.rules.specs.Format.{table_of}
use Rattle.rules.specs.Refusals.{Refusal}
use Rattle.rules.specs.Run.{RunAnswer as MeantRunAnswer, program_course, output, written_over, work_needed, accepted, run_refusal, run_answer, run_output}
use Rattle.rules.specs.WholeRun.{Demand3}
use Rattle.run_call.specs.declared.RunAnswer.{RunAnswer}

abbrev pub run_meant : RunAnswer → MeantRunAnswer
run_meant r = record { number = r.number; place = r.place; ending = r.ending; steps = r.steps; root_type = r.root_type; written = r.written; replaced = r.replaced }

-- What an accepted run ensures: the answer, and every byte of the output buffer.
pub record Accepted (program : List ℕ) (fuel : ℕ) (out out' : List ℕ) (r : RunAnswer) : Type 0 where
  pub answer : run_meant r ≡ accepted (table_of program) (program_course program fuel)
  pub output : out' ≡ written_over out (output (table_of program) (program_course program fuel).last)

-- What a run of the first edition ensures, of the program, the fuel and the buffers before the call, its answer, and the buffers after it. The answer and every byte
-- of the output buffer are the definitions'. Of the work buffer, the first 65,536 bytes after an accepted run are free, which is the sole freedom;
-- a refused call changes nothing. Demand 3 is about the same two definitions.
pub record Ran (program : List ℕ) (fuel : ℕ) (out work : List ℕ) (r : RunAnswer) (out' work' : List ℕ) : Type 0 where
  pub answer : run_meant r ≡ run_answer first_edition program fuel (length out) (length work)
  pub output : out' ≡ run_output first_edition program fuel out (length work)
  pub work_length : length work' ≡ length work
  pub work_beyond : drop work_needed work' ≡ drop work_needed work
  pub work_refused : (q : Refusal) → run_refusal first_edition program (length out) (length work) ≡ some q → work' ≡ work
  pub whole : run_refusal first_edition program (length out) (length work) ≡ none → Demand3 first_edition program fuel out (length work)
