-- The number of what is wanted, and the fault of the record that has it.
use Prim.Native.Nat.{ℕ, suc, ◌≤◌, ◌<◌}
use native.Mathlib.Omega.{arith}
use mathlib.Core.List.{List}
use mathlib.Core.Path.{◌≡◌, refl, ap, ◌∙◌}
use lib.ListN.{length}
use lib.Seq.{length-take-le}
use borrow.Author.Tests.{lt-ltb, le-ltb}
use Rattle.std.specs.Prelude.{Result, Ok, Err, slice_index}
use Rattle.rules.specs.Kinds.{kind_of}
use Rattle.rules.specs.Types.{Table}
use Rattle.rules.specs.Typing.{Env}
use Rattle.rules.specs.Format.{most_types}
use Rattle.rules.specs.Refusals.{unless}
use Rattle.rules.specs.Check.{judged}
use Rattle.kinds.specs.declared.names.Kind.{Kind}
use Rattle.kinds.specs.Named.{kind_meant}
use Rattle.records.specs.declared.Entry.{Entry}
use Rattle.records.specs.declared.Record.{Record}
use Rattle.records.specs.Meant.{entry_meant}
use Rattle.records.specs.View.{entries_in}
use Rattle.refusals.specs.declared.reasons.Reason.{Reason}
use Rattle.refusals.specs.declared.reasons.Reason.TheVariants.{TableFull}
use Rattle.refusals.proofs.Reporting.{reports_first, reports_next}
use Rattle.judging.specs.declared.Binders.{Binders}
use Rattle.judging.specs.Stack.{binders_of}
use Rattle.judging.specs.Tests.{fields_meant, refused_at, Judges}
use Rattle.tables.specs.declared.Table.{Table as TypeTable}
use Rattle.tables.specs.Having.{buffer_of, entries_of, HasBytes, AreEntries, CanGrow, CanHave, Has}
use Rattle.assigning.specs.declared.Candidate.{Candidate}
use Rattle.assigning.specs.declared.Candidate.TheVariants.{Known, Made}
use Rattle.assigning.specs.Assigning.{wanted_meant, wanted_for, Wants, MayFollow, CanHold, HasWanted, HasCandidate, JudgesOwn, JudgesWhole, fault_for, CanAssign, Assigns}

-- An entry that is made may be had.
pub can_have : (t : TypeTable) (w : Candidate) (e : Entry) → CanHold t w → w ≡ Made e → CanHave t (entry_meant e)
unfolding wanted_meant MayFollow
can_have t w e can is = record { table = can.table; parts = rw is at can.follows }

-- A number that is known, and that of an entry that is made.
pub has_known : (t : TypeTable) (w : Candidate) (n : ℕ) → w ≡ Known n → HasCandidate t t w n
unfolding wanted_meant
has_known t w n is = rw is (record { does = record { same = refl; table = refl; number = refl; fits = omega arith; room = refl } })

pub has_made : (t t' : TypeTable) (w : Candidate) (e : Entry) (n : ℕ) → w ≡ Made e → Has t t' (entry_meant e) n → HasCandidate t t' w n
unfolding wanted_meant
has_made t t' w e n is h = rw is (record { does = record { same = h.same; table = h.table; number = h.number; fits = h.fits; room = h.room } })

-- The record's own fault, by its kind.
pub judges_own : (types : Table) (Γ : Env) (l : ℕ) (kind : Kind) (r : Record) (children : List ℕ) (q : Result Unit Reason) → kind_meant kind ≡ kind_of r.kind
    → Judges types Γ l kind r children q → JudgesOwn types Γ l r children q
judges_own types Γ l kind r children q e j = record {
  is = λ n. j.tells n ∙ ap (λ k. judged types Γ l n k (fields_meant r) (slice_index children 0) (slice_index children 1) (slice_index children 2)) e;
}

-- The record's own fault, then 14.
module _ (t : TypeTable) (s : List ℕ) (a : AreEntries t s) (Γ : Env) (l : ℕ) (r : Record) (children : List ℕ) where
  pub own_stays : (reason : Reason) → JudgesOwn (entries_in s) Γ l r children (Err reason) → JudgesWhole (entries_of t) Γ l r children (Err reason)
  own_stays reason own = record { is = λ n. reports_first _ _ _ ((rw a.are at own).is n) }

  module _ (has : HasBytes t) (own : JudgesOwn (entries_in s) Γ l r children (Ok tt)) where
    count : length (entries_of t) ≡ t.types
    count = length-take-le t.types (buffer_of t) has.room

    pub full_fault : most_types < t.types → JudgesWhole (entries_of t) Γ l r children (Err TableFull)
    unfolding unless
    full_fault h = record { is = λ n. reports_next _ _ _ ((rw a.are at own).is n) (rw (le-ltb (length (entries_of t)) (suc most_types) (omega (arith, count))) refl) }

    pub no_fault : t.types ≤ most_types → JudgesWhole (entries_of t) Γ l r children (Ok tt)
    unfolding unless
    no_fault h = record { is = λ n. reports_next _ _ _ ((rw a.are at own).is n) (rw (lt-ltb (length (entries_of t)) (suc most_types) (omega (arith, count))) refl) }

-- A table that can grow has its entries' bytes, and so has the one that has what is wanted.
pub grows_in_bytes : (t : TypeTable) → CanGrow t → HasBytes t
grows_in_bytes t can = record { room = omega (arith, can.room) }

pub held_bytes : (t t' : TypeTable) (w : Candidate) (n : ℕ) → CanGrow t → HasCandidate t t' w n → HasBytes t'
held_bytes t t' w n can has = record { room = omega (arith, can.room, has.does.fits, has.does.room) }

-- What is wanted, given to the record.
module _ (t : TypeTable) (s : List ℕ) (a : AreEntries t s) (b : Binders) (o : Record) (children : List ℕ) (w : Candidate) (wants : Wants (entries_in s) (binders_of b) o children w) where
  wanted_is : wanted_meant w ≡ wanted_for (entries_of t) (binders_of b) o children
  wanted_is = rw a.are at wants.is

  pub can_hold : CanAssign t b o children → CanHold t w
  can_hold can = record { table = can.table; follows = rw wanted_is can.follows }

  -- The fault with the type that is held is the one that the definition has.
  module _ (t' : TypeTable) (ty : ℕ) (has : HasCandidate t t' w ty) (l n : ℕ) where
    held_so : HasWanted t t' (wanted_for (entries_of t) (binders_of b) o children) ty
    held_so = rw wanted_is at has.does

    abbrev given : Record
    given = record { kind = o.kind; ty = ty; a = o.a; b = o.b; first = o.first; next = o.next; value = o.value }

    fault_is : (q : Result Unit Reason) → JudgesWhole (entries_of t') (binders_of b) l given children q → refused_at n q ≡ fault_for (entries_of t) (binders_of b) l n o children
    unfolding fault_for
    fault_is q j = rw (← held_so.table, ← held_so.number) (j.is n)

    pub assigns : JudgesWhole (entries_of t') (binders_of b) l given children (Ok tt) → Assigns t t' (binders_of b) l n o children (Ok ty)
    assigns j = record { reports = fault_is (Ok tt) j; held = held_so }

    pub assigns_none : (reason : Reason) → JudgesWhole (entries_of t') (binders_of b) l given children (Err reason)
        → Assigns t t' (binders_of b) l n o children (Err (record { reason = reason; place = n }))
    assigns_none reason j = record { reports = fault_is (Err reason) j; held = record { number = ty; held = held_so } }
