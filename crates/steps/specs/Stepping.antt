-- One step of a run: what it asks of a state, and the state after it.
use Rattle.std.specs.Prelude.{◌+◌, ◌^◌, ◌≤◌, ◌<◌, List, Bool, false, ◌≡◌, Option, Some, None}
use Rattle.std.proofs.Math.Option.{some}
use Rattle.rules.specs.Terms.{Term, size}
use Rattle.rules.specs.Types.{Table, NoTwins}
use Rattle.rules.specs.Values.{value}
use Rattle.rules.specs.Steps.{Event}
use Rattle.rules.specs.Next.{next}
use Rattle.rules.specs.Format.{Record, most_records}
use Rattle.navigation.specs.Ascending.{Sought, Turned}
use Rattle.contraction.specs.Naming.{rule_named}
use Rattle.steps.specs.declared.events.Event.{Event as Told}
use Rattle.steps.specs.declared.state.State.{State}
use Rattle.steps.specs.declared.state.Step.{Step}

-- The state holds t, which keeps the rules of its table: at a focus that is to be searched, or where the search is over.
pub record HoldsTerm (types : Table) (rs : List Record) (s : State) (t : Term) : Type 0 where
  pub turned : Turned types rs 0 t s.turn

-- The search is over: the state is at a value, or at the record that is rewritten next.
pub record Runs (types : Table) (rs : List Record) (s : State) (t : Term) : Type 0 where
  pub found : Sought types rs t s.turn

-- Some term is held, and so.
pub record HasTerm (rs : List Record) (s : State) : Type 0 where
  pub types : Table
  pub term : Term
  pub holds : HoldsTerm types rs s term

pub record HasRun (rs : List Record) (s : State) : Type 0 where
  pub types : Table
  pub term : Term
  pub runs : Runs types rs s term

-- The same term, after the search.
pub record SeeksTerm (rs rs' : List Record) (s r : State) : Type 0 where
  pub does : (types : Table) (t : Term) → HoldsTerm types rs s t → Runs types rs' r t
  pub steps : r.steps ≡ s.steps

-- r is whether the term is a value.
pub record TellsValue (s : State) (r : Bool) : Type 0 where
  pub is : (types : Table) (rs : List Record) (t : Term) → Runs types rs s t → r ≡ value t

-- The state is at the redex of a term of a table without like entries, and one step more can be counted.
pub record CanStep (types : Table) (rs : List Record) (s : State) : Type 0 where
  pub term : Term
  pub runs : Runs types rs s term
  pub no_value : value term ≡ false
  pub unlike : NoTwins types
  pub counts : s.steps + 1 < 2 ^ 32

-- t is no value, and its next term is u; the event of the step.
pub record Becomes (types : Table) (t u : Term) : Type 0 where
  pub no_value : value t ≡ false
  pub event : Event
  pub is_next : next types 0 t ≡ some (record { event = event; term = u })

-- An event as a step tells it, its rule by its name.
abbrev pub told : Event → Told
told e = record { rule = rule_named e.rule; place = e.place; replaced = e.replaced }

-- After a step from t: the next term has room, and the step is made, with its event; or "the next term has more than 2,048 records", and no
-- step is made.
pub data After (types : Table) (rs' : List Record) (s : State) (t : Term) : Option Step → Type 0 where
  running : (r : Step) (u : Term) (b : Becomes types t u) → size u ≤ most_records → HoldsTerm types rs' r.state u → r.state.steps ≡ s.steps + 1 → r.event ≡ told b.event → After types rs' s t (Some r)
  too_large : (u : Term) → Becomes types t u → most_records < size u → Runs types rs' s t → After types rs' s t None

pub record Stepped (types : Table) (rs rs' : List Record) (s : State) (r : Option Step) : Type 0 where
  pub does : (t : Term) → Runs types rs s t → After types rs' s t r
