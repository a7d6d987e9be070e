-- What a table that grows in a lent buffer is, and what it is for it to have an entry.
use Rattle.std.specs.Prelude.{ℕ, suc, ◌*◌, ◌≤◌, ◌<◌, ◌≡◌, List, length, get_or, take}
use Rattle.std.specs.Borrow.{MutBor}
use Rattle.rules.specs.Types.{Entry, Table, no_entry}
use Rattle.rules.specs.Format.{most_types}
use Rattle.inference.specs.Inference.{having, before}
use Rattle.records.specs.View.{entries_in}
use Rattle.tables.specs.declared.Table.{Table as TypeTable}

-- The entries of the whole buffer, and the table's: the first of them, as many as it has types.
abbrev pub buffer_of : TypeTable → Table
buffer_of t = entries_in t.bytes.now

abbrev pub entries_of : TypeTable → Table
entries_of t = take t.types (buffer_of t)

-- t is the table of the first `count` entries in the lent bytes.
pub record IsOf (lent : MutBor (List ℕ)) (count : ℕ) (t : TypeTable) : Type 0 where
  pub same : t.bytes.ghost_name ≡ lent.ghost_name
  pub bytes : t.bytes.now ≡ lent.now
  pub types : t.types ≡ count

-- The buffer has the table's entries, and s is their bytes.
pub record HasBytes (t : TypeTable) : Type 0 where
  pub room : t.types ≤ length (buffer_of t)

pub record AreEntries (t : TypeTable) (s : List ℕ) : Type 0 where
  pub long : length s ≡ 6 * t.types
  pub are : entries_in s ≡ entries_of t

-- The parts of an entry are numbers of the first n, or 0.
pub record PartsIn (n : ℕ) (x : Entry) : Type 0 where
  pub a : x.a ≤ n
  pub b : x.b ≤ n

-- The buffer has room for one entry after the table's, which are no more than a table may have, and "parts are numbers of earlier entries".
pub record CanGrow (t : TypeTable) : Type 0 where
  pub room : t.types < length (buffer_of t)
  pub few : t.types ≤ most_types
  pub earlier : (n : ℕ) → n < t.types → PartsIn n (get_or (buffer_of t) n no_entry)

-- And those of x, which may follow them, too.
pub record CanHave (t : TypeTable) (x : Entry) : Type 0 where
  pub table : CanGrow t
  pub parts : PartsIn t.types x

-- x is none of the table's first `from` entries.
pub record CanLookUp (t : TypeTable) (from : ℕ) (x : Entry) : Type 0 where
  pub room : t.types ≤ length (buffer_of t)
  pub most : from ≤ t.types
  pub past : (n : ℕ) → n < from → get_or (buffer_of t) n no_entry ≡ x → ⊥

-- The table t becomes t', which has x, in the same lent bytes; n is x's number.
pub record Has (t t' : TypeTable) (x : Entry) (n : ℕ) : Type 0 where
  pub same : t'.bytes.ghost_name ≡ t.bytes.ghost_name
  pub table : entries_of t' ≡ having (entries_of t) x
  pub number : n ≡ suc (before (entries_of t) x)
  pub fits : t'.types ≤ suc t.types
  pub room : length (buffer_of t') ≡ length (buffer_of t)
