-- What the writing of a whole program asks and does.
use Rattle.std.specs.Prelude.{ℕ, ◌+◌, ◌*◌, ◌≤◌, ◌≡◌, List, length}
use Rattle.rules.specs.Lists.{joined}
use Rattle.rules.specs.Terms.{Term, size}
use Rattle.rules.specs.Format.{Record, most_types, most_records, record_bytes}
use Rattle.rules.specs.Links.{laid, written}
use Rattle.rules.specs.Run.{written_over}
use Rattle.records.specs.Overwritten.{overwritten}
use Rattle.records.specs.View.{entries_in}
use Rattle.terms.specs.Preorder.{At}

-- The tree t stands at the front of the records rs, and the bytes s have room for its records from byte `start` on.
pub record RecordsFit (rs : List Record) (s : List ℕ) (start : ℕ) (t : Term) : Type 0 where
  pub there : At rs 0 t
  pub few : size t ≤ most_records
  pub room : start + 16 * size t ≤ length s

pub record CanWriteRecords (rs : List Record) (s : List ℕ) (start : ℕ) : Type 0 where
  pub tree : Term
  pub can : RecordsFit rs s start tree

-- The records of t as a program's, from `start` on, and where they end.
pub record WroteRecords (s s' : List ℕ) (start : ℕ) (t : Term) (r : ℕ) : Type 0 where
  pub bytes : s' ≡ overwritten s start (joined record_bytes (laid 1 0 t))
  pub end : r ≡ start + 16 * size t

pub record WritesRecords (rs : List Record) (s s' : List ℕ) (start r : ℕ) : Type 0 where
  pub does : (t : Term) → RecordsFit rs s start t → WroteRecords s s' start t r

-- The table is some whole entries, the records rs are those of the tree t, and the bytes s have room for both.
pub record ProgramFits (table : List ℕ) (rs : List Record) (s : List ℕ) (t : Term) : Type 0 where
  pub entries : length table ≡ 6 * length (entries_in table)
  pub some_types : 1 ≤ length (entries_in table)
  pub few_types : length (entries_in table) ≤ most_types
  pub there : At rs 0 t
  pub size_is : size t ≡ length rs
  pub some : 1 ≤ length rs
  pub few : length rs ≤ most_records
  pub room : 4 + 6 * length (entries_in table) + 16 * length rs ≤ length s

pub record CanWriteProgram (table : List ℕ) (rs : List Record) (s : List ℕ) : Type 0 where
  pub tree : Term
  pub can : ProgramFits table rs s tree

-- "It writes the same type table and the last term .. Output beyond that length is unchanged."
pub record WroteProgram (table s s' : List ℕ) (t : Term) (r : ℕ) : Type 0 where
  pub bytes : s' ≡ written_over s (written (entries_in table) t)
  pub end : r ≡ length (written (entries_in table) t)
  pub long : r ≡ 4 + 6 * length (entries_in table) + 16 * size t

pub record WritesProgram (table : List ℕ) (rs : List Record) (s s' : List ℕ) (r : ℕ) : Type 0 where
  pub does : (t : Term) → ProgramFits table rs s t → WroteProgram table s s' t r
