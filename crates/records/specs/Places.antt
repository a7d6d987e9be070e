-- Entries and records by their number, which is counted from 1, and the chain of siblings, in which 0 is no record.
use Rattle.std.specs.Prelude.{ℕ, ◌≤◌, List, ◌≡◌, length}
use Rattle.rules.specs.Types.{Table, entry}
use Rattle.rules.specs.Format.{Record as MeantRecord, record_no}
use Rattle.rules.specs.Links.{NoBadLink, next_of}
use Rattle.records.specs.declared.Entry.{Entry}
use Rattle.records.specs.declared.Record.{Record}
use Rattle.records.specs.Meant.{entry_meant, record_meant}

-- n is the number of an element.
pub record Within {A : Type 0} (xs : List A) (n : ℕ) : Type 0 where
  pub some : 1 ≤ n
  pub most : n ≤ length xs

-- e is entry n, and r is record n.
pub record IsEntry (types : Table) (n : ℕ) (e : Entry) : Type 0 where
  pub is : entry_meant e ≡ entry types n

pub record IsRecord (rs : List MeantRecord) (n : ℕ) (r : Record) : Type 0 where
  pub is : record_meant r ≡ record_no rs n

-- n is a record or 0, where no link is bad.
pub record InChain (rs : List MeantRecord) (n : ℕ) : Type 0 where
  pub good : NoBadLink rs
  pub most : n ≤ length rs

-- m is the record that follows n in its chain, or 0.
pub record Follows (rs : List MeantRecord) (n m : ℕ) : Type 0 where
  pub is : m ≡ next_of rs n
