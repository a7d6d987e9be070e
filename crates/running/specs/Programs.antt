-- The run of a program that is passed, from its bytes to the bytes that it writes.
use Rattle.std.specs.Prelude.{ℕ, ◌≤◌, List, ◌≡◌, length}
use Rattle.rules.specs.Editions.{Edition, HasKnownKinds}
use Rattle.rules.specs.Format.{table_of}
use Rattle.rules.specs.Meets.{Meets}
use Rattle.rules.specs.Run.{program_course, outcome_of, output_needed, work_needed}
use Rattle.running.specs.declared.Completion.{Completion}
use Rattle.running.specs.Finishing.{Finished}

-- The program meets the rules of an edition of known kinds, the output has room for any program, and the work buffer is what a run uses of it.
pub record CanRunProgram (edition : Edition) (program out work : List ℕ) : Type 0 where
  pub known : HasKnownKinds edition
  pub meets : Meets edition program
  pub room : output_needed ≤ length out
  pub long : length work ≡ work_needed

pub record RunsProgram (program : List ℕ) (fuel : ℕ) (out out' : List ℕ) (r : Completion) : Type 0 where
  pub does : Finished (table_of program) out out' (outcome_of (program_course program fuel)) r
