-- The term of a state, written out as a program.
use Rattle.std.specs.Prelude.{ℕ, ◌*◌, ◌≤◌, List, [], ◌≡◌, length}
use Rattle.rules.specs.Terms.{Term}
use Rattle.rules.specs.Types.{Table}
use Rattle.rules.specs.Typing.{Typed}
use Rattle.rules.specs.Format.{Record}
use Rattle.rules.specs.Run.{output_needed}
use Rattle.records.specs.View.{entries_in}
use Rattle.contexts.specs.Contexts.{Context, plug}
use Rattle.zipper.specs.declared.focus.Focus.{Focus}
use Rattle.zipper.specs.Focusing.{LaidAt}
use Rattle.writing.specs.Program.{WroteProgram}
use Rattle.steps.specs.declared.state.State.{State}
use Rattle.steps.specs.Stepping.{Runs}

-- The typed term t is laid out around the focus z.
pub record LaidOut (types : Table) (rs : List Record) (z : Focus) (t : Term) : Type 0 where
  pub context : Context
  pub focus : Term
  pub laid : LaidAt rs z context focus
  pub same : plug context focus ≡ t
  pub typed : Typed types [] 0 t

pub record Settles (rs rs' : List Record) (s : State) (r : Focus) : Type 0 where
  pub does : (types : Table) (t : Term) → Runs types rs s t → LaidOut types rs' r t

-- The state holds a term, the table is some whole entries, and the output has room for the largest program.
pub record CanWriteOut (table : List ℕ) (rs : List Record) (s : State) (out : List ℕ) : Type 0 where
  pub rules : Table
  pub term : Term
  pub runs : Runs rules rs s term
  pub entries : length table ≡ 6 * length (entries_in table)
  pub some_types : 1 ≤ length (entries_in table)
  pub few_types : length (entries_in table) ≤ 256
  pub room : output_needed ≤ length out

pub record WritesOut (table : List ℕ) (rs : List Record) (s : State) (out out' : List ℕ) (r : ℕ) : Type 0 where
  pub does : (rules : Table) (t : Term) → Runs rules rs s t → WroteProgram table out out' t r
  pub short : r ≤ output_needed
