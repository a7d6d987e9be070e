-- What it is to give a record its type: what is wanted, the table that has it, and the record's fault with it.
use Rattle.std.specs.Prelude.{ℕ, suc, ◌≤◌, List, ◌≡◌, length, slice_index, Result, Ok, Err}
use Rattle.std.proofs.Math.Option.{Option}
use Rattle.rules.specs.Kinds.{kind_of}
use Rattle.rules.specs.Types.{Table}
use Rattle.rules.specs.Typing.{Env}
use Rattle.rules.specs.Refusals.{Refusal as MeantRefusal}
use Rattle.rules.specs.Check.{judged}
use Rattle.inference.specs.Inference.{retyped, Wanted, known, made, wanted, table_for, number_for, fault_in}
use Rattle.records.specs.declared.Record.{Record}
use Rattle.records.specs.Meant.{entry_meant}
use Rattle.refusals.specs.declared.reasons.Reason.{Reason}
use Rattle.refusals.specs.declared.reasons.Refusal.{Refusal}
use Rattle.refusals.specs.Reports.{Reports}
use Rattle.judging.specs.declared.Binders.{Binders}
use Rattle.judging.specs.Stack.{binders_of, capacity}
use Rattle.judging.specs.Tests.{fields_meant, refused_at}
use Rattle.tables.specs.declared.Table.{Table as TypeTable}
use Rattle.tables.specs.Having.{buffer_of, entries_of, PartsIn, CanGrow}
use Rattle.assigning.specs.declared.Candidate.{Candidate}
use Rattle.assigning.specs.declared.Candidate.TheVariants.{Known, Made}

-- The candidate that the code's enum stands for.
unfoldable pub wanted_meant : Candidate → Wanted
wanted_meant (Known n) = known n
wanted_meant (Made e) = made (entry_meant e)

-- What is wanted for the record, whose children have these types.
abbrev pub wanted_for : Table → Env → Record → List ℕ → Wanted
wanted_for types Γ r children = wanted types Γ (kind_of r.kind) (fields_meant r) (slice_index children 0) (slice_index children 1)

pub record Wants (types : Table) (Γ : Env) (r : Record) (children : List ℕ) (w : Candidate) : Type 0 where
  pub is : wanted_meant w ≡ wanted_for types Γ r children

-- What is wanted may follow the first n entries, if it is made.
unfoldable pub MayFollow : ℕ → Wanted → Type 0
MayFollow n (known m) = Unit {0}
MayFollow n (made x) = PartsIn n x

pub record CanHold (t : TypeTable) (w : Candidate) : Type 0 where
  pub table : CanGrow t
  pub follows : MayFollow t.types (wanted_meant w)

-- The table t becomes t', which has what is wanted, in the same lent bytes; n is the number of that.
pub record HasWanted (t t' : TypeTable) (w : Wanted) (n : ℕ) : Type 0 where
  pub same : t'.bytes.ghost_name ≡ t.bytes.ghost_name
  pub table : entries_of t' ≡ table_for (entries_of t) w
  pub number : n ≡ number_for (entries_of t) w
  pub fits : t'.types ≤ suc t.types
  pub room : length (buffer_of t') ≡ length (buffer_of t)

pub record HasCandidate (t t' : TypeTable) (w : Candidate) (n : ℕ) : Type 0 where
  pub does : HasWanted t t' (wanted_meant w) n

-- q is the fault of record r, whatever its number n, by rules 10 to 12; and the lowest of 10, 11, 12 and 14.
pub record JudgesOwn (types : Table) (Γ : Env) (l : ℕ) (r : Record) (children : List ℕ) (q : Result Unit Reason) : Type 0 where
  pub is : (n : ℕ) → refused_at n q ≡ judged types Γ l n (kind_of r.kind) (fields_meant r) (slice_index children 0) (slice_index children 1) (slice_index children 2)

pub record JudgesWhole (types : Table) (Γ : Env) (l : ℕ) (r : Record) (children : List ℕ) (q : Result Unit Reason) : Type 0 where
  pub is : (n : ℕ) → refused_at n q ≡ fault_in types Γ l n (kind_of r.kind) (fields_meant r) (slice_index children 0) (slice_index children 1) (slice_index children 2)

-- The fault of record n, which is r, with the type that is wanted for it.
unfoldable pub fault_for : Table → Env → ℕ → ℕ → Record → List ℕ → Option MeantRefusal
fault_for types Γ l n r children =
    let w = wanted_for types Γ r children in
    fault_in (table_for types w) Γ l n (kind_of r.kind) (retyped (number_for types w) (fields_meant r)) (slice_index children 0) (slice_index children 1) (slice_index children 2)

-- There is room for one more entry, the binders stand in their array, and what is wanted may follow the table.
pub record CanAssign (t : TypeTable) (b : Binders) (r : Record) (children : List ℕ) : Type 0 where
  pub table : CanGrow t
  pub binders : length (binders_of b) ≤ capacity b
  pub follows : MayFollow t.types (wanted_for (entries_of t) (binders_of b) r children)

-- The table has what is wanted, whatever its number.
pub record HasSome (t t' : TypeTable) (w : Wanted) : Type 0 where
  pub number : ℕ
  pub held : HasWanted t t' w number

-- The same where its number is told, or the record is refused.
abbrev pub HasTold : TypeTable → TypeTable → Wanted → Result ℕ Refusal → Type 0
HasTold t t' w (Ok n) = HasWanted t t' w n
HasTold t t' w (Err r) = HasSome t t' w

-- The table has the type that is wanted for record n, which is r, and the record's fault with it is reported.
pub record Assigns (t t' : TypeTable) (Γ : Env) (l n : ℕ) (r : Record) (children : List ℕ) (a : Result ℕ Refusal) : Type 0 where
  pub reports : Reports a (fault_for (entries_of t) Γ l n r children)
  pub held : HasTold t t' (wanted_for (entries_of t) Γ r children) a
