-- The state before the first step: "a program's first term is its root's tree".
use Rattle.std.specs.Prelude.{◌≤◌, List, [], ◌≡◌, length}
use Rattle.rules.specs.Terms.{size}
use Rattle.rules.specs.Types.{Table}
use Rattle.rules.specs.Typing.{Typed}
use Rattle.rules.specs.Format.{Record, most_records}
use Rattle.rules.specs.Links.{root_tree}
use Rattle.terms.specs.Loads.{WellLinked}
use Rattle.steps.specs.declared.state.State.{State}
use Rattle.steps.specs.Stepping.{HoldsTerm}

-- The links of a program's records make one tree of them all, which keeps the rules of some table, and the records rs have room for a term and as many free
-- ones.
pub record CanStart (program rs : List Record) : Type 0 where
  pub types : Table
  pub typed : Typed types [] 0 (root_tree program)
  pub linked : WellLinked program
  pub whole : size (root_tree program) ≡ length program
  pub some : 1 ≤ length program
  pub few : length program ≤ most_records
  pub room : 4096 ≤ length rs

-- The first term is held, and no step is made.
pub record Starts (program rs' : List Record) (r : State) : Type 0 where
  pub holds : (types : Table) → Typed types [] 0 (root_tree program) → HoldsTerm types rs' r (root_tree program)
  pub steps : r.steps ≡ 0
