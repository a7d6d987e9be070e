-- The layout of a program: "Two 16-bit counts come first. T entries of 6 bytes and R records of 16 bytes follow", and nothing after them.
use Rattle.std.specs.Prelude.{ℕ, ◌+◌, ◌*◌, ◌<◌, List, ◌≡◌, length, take, drop}
use Rattle.rules.specs.Format.{type_count, record_count, table_of, records_of}
use Rattle.records.specs.View.{entries_in, records_in}
use Rattle.parts.specs.declared.Parts.{Parts}

-- The program is as long as its counts say.
pub record IsLaidOut (program : List ℕ) : Type 0 where
  pub exact : length program ≡ 4 + 6 * type_count program + 16 * record_count program

-- The bytes of its table and of its records.
abbrev pub table_part : List ℕ → List ℕ
table_part program = take (6 * type_count program) (drop 4 program)

abbrev pub records_part : List ℕ → List ℕ
records_part program = drop (4 + 6 * type_count program) program

-- The bytes are the program's own, and they are its entries and its records, as many as its counts say, which are numbers of 16 bits.
pub record ArePartsOf (program : List ℕ) (parts : Parts) : Type 0 where
  pub table : parts.table.now ≡ table_part program
  pub records : parts.records.now ≡ records_part program
  pub entries_are : entries_in parts.table.now ≡ table_of program
  pub records_are : records_in parts.records.now ≡ records_of program
  pub table_long : length parts.table.now ≡ 6 * type_count program
  pub entries_counted : length (entries_in parts.table.now) ≡ type_count program
  pub records_counted : length (records_in parts.records.now) ≡ record_count program
  pub entries_few : length (entries_in parts.table.now) < 65536
  pub records_few : length (records_in parts.records.now) < 65536
