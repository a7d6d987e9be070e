-- What the loop of steps asks and ensures.
use Rattle.std.specs.Prelude.{ℕ, List, ◌≡◌, length}
use Rattle.rules.specs.Terms.{Term}
use Rattle.rules.specs.Types.{Table, NoTwins}
use Rattle.rules.specs.Steps.{Event}
use Rattle.rules.specs.Format.{Record}
use Rattle.rules.specs.Traces.{replaced_total}
use Rattle.rules.specs.Run.{course}
use Rattle.steps.specs.declared.state.State.{State}
use Rattle.steps.specs.Stepping.{HoldsTerm, Runs}
use Rattle.running.specs.declared.Halted.{Halted}
use Rattle.running.specs.Running.{ended_after}
use Rattle.running.specs.Endings.{ending_meant}

-- The state holds a term of a table without like entries, and no step is made.
pub record CanRun (types : Table) (rs : List Record) (s : State) : Type 0 where
  pub term : Term
  pub holds : HoldsTerm types rs s term
  pub none : s.steps ≡ 0
  pub unlike : NoTwins types

-- The run has halted at its last term, which the state holds: its course ends there so, with as many steps as the state has counted, and the total is theirs.
pub record Halts (types : Table) (fuel : ℕ) (first : Term) (rs : List Record) (r : Halted) : Type 0 where
  pub trace : List Event
  pub last : Term
  pub runs : Runs types rs r.state last
  pub counted : r.state.steps ≡ length trace
  pub is : course types fuel first ≡ ended_after trace (ending_meant r.ending) last
  pub total : r.replaced ≡ replaced_total trace

pub record RunsOut (types : Table) (fuel : ℕ) (rs rs' : List Record) (s : State) (r : Halted) : Type 0 where
  pub does : (first : Term) → HoldsTerm types rs s first → Halts types fuel first rs' r
