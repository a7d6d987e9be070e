-- A run from its first state to the bytes that it writes.
use Rattle.std.specs.Prelude.{ℕ, ◌*◌, ◌≤◌, List, ◌≡◌, length}
use Rattle.rules.specs.Terms.{Term}
use Rattle.rules.specs.Types.{Table}
use Rattle.rules.specs.Format.{Record}
use Rattle.rules.specs.Run.{Outcome, run, output, written_over, output_needed}
use Rattle.records.specs.View.{entries_in}
use Rattle.steps.specs.declared.state.State.{State}
use Rattle.steps.specs.Stepping.{HoldsTerm}
use Rattle.running.specs.declared.Completion.{Completion}
use Rattle.running.specs.Endings.{ending_meant}
use Rattle.running.specs.Looping.{CanRun}

-- The state holds the first term, the table is some whole entries, and the output has room for the largest program.
pub record CanFinish (table : List ℕ) (rs : List Record) (s : State) (out : List ℕ) : Type 0 where
  pub run : CanRun (entries_in table) rs s
  pub entries : length table ≡ 6 * length (entries_in table)
  pub some_types : 1 ≤ length (entries_in table)
  pub few_types : length (entries_in table) ≤ 256
  pub room : output_needed ≤ length out

-- What is told and written is this outcome's.
pub record Finished (types : Table) (out out' : List ℕ) (o : Outcome) (r : Completion) : Type 0 where
  pub ending : ending_meant r.ending ≡ o.ending
  pub steps : r.steps ≡ o.steps
  pub replaced : r.replaced ≡ o.replaced
  pub written : r.written ≡ length (output types o.last)
  pub bytes : out' ≡ written_over out (output types o.last)

pub record Finishes (table : List ℕ) (fuel : ℕ) (rs : List Record) (s : State) (out out' : List ℕ) (r : Completion) : Type 0 where
  pub does : (first : Term) → HoldsTerm (entries_in table) rs s first → Finished (entries_in table) out out' (run (entries_in table) fuel first) r
