-- The program form: what the bytes of a program mean, and which bytes are written for a table and records.
use Rattle.std.specs.Prelude.{ℕ, ◌+◌, ◌*◌, ◌/◌, ◌%◌, List, [], ◌∷◌, ◌++◌, length, get_or, drop}
use Rattle.rules.specs.Lists.{listed, joined}
use Rattle.rules.specs.Terms.{Fields, only_type}
use Rattle.rules.specs.Types.{Entry, Table}

-- "Integers are unsigned and little-endian": those of 16 and of 32 bits at place `at` of the bytes.
abbrev pub u16 : List ℕ → ℕ → ℕ
u16 bytes at = get_or bytes at 0 + 256 * get_or bytes (at + 1) 0

abbrev pub u32 : List ℕ → ℕ → ℕ
u32 bytes at = u16 bytes at + 65536 * u16 bytes (at + 2)

-- "A record has 16-bit kind, type, a, b, first, next and a 32-bit value."
pub record Record : Type 0 where
  pub kind : ℕ
  pub fields : Fields
  pub first : ℕ
  pub next : ℕ

-- The entry of 6 bytes and the record of 16 bytes at the front of the bytes.
abbrev pub entry_of : List ℕ → Entry
entry_of bytes = record { kind = u16 bytes 0; a = u16 bytes 2; b = u16 bytes 4 }

abbrev pub record_of : List ℕ → Record
record_of bytes = record {
  kind = u16 bytes 0;
  fields = record { type = u16 bytes 2; a = u16 bytes 4; b = u16 bytes 6; value = u32 bytes 12 };
  first = u16 bytes 8;
  next = u16 bytes 10;
}

-- "Two 16-bit counts come first: T type entries (1 to 256) and R records (1 to 2,048). T entries of 6 bytes and R records of 16 bytes follow."
abbrev pub most_types : ℕ
most_types = 256

abbrev pub most_records : ℕ
most_records = 2048

abbrev pub type_count : List ℕ → ℕ
type_count bytes = u16 bytes 0

abbrev pub record_count : List ℕ → ℕ
record_count bytes = u16 bytes 2

unfoldable pub table_of : List ℕ → Table
table_of bytes = listed (λ i. entry_of (drop (4 + 6 * i) bytes)) 0 (type_count bytes)

unfoldable pub records_of : List ℕ → List Record
records_of bytes = listed (λ i. record_of (drop (4 + 6 * type_count bytes + 16 * i) bytes)) 0 (record_count bytes)

-- Record n, counted from 1; 0 is no record.
abbrev pub no_record : Record
no_record = record { kind = 0; fields = only_type 0; first = 0; next = 0 }

abbrev pub record_no : List Record → ℕ → Record
record_no rs n = get_or (no_record ∷ rs) n no_record

-- The bytes of numbers, entries, records and programs.
abbrev pub bytes16 : ℕ → List ℕ
bytes16 x = x % 256 ∷ x / 256 % 256 ∷ []

abbrev pub bytes32 : ℕ → List ℕ
bytes32 x = bytes16 (x % 65536) ++ bytes16 (x / 65536)

abbrev pub entry_bytes : Entry → List ℕ
entry_bytes x = bytes16 x.kind ++ bytes16 x.a ++ bytes16 x.b

abbrev pub record_bytes : Record → List ℕ
record_bytes r = bytes16 r.kind ++ bytes16 r.fields.type ++ bytes16 r.fields.a ++ bytes16 r.fields.b ++ bytes16 r.first ++ bytes16 r.next ++ bytes32 r.fields.value

unfoldable pub program_bytes : Table → List Record → List ℕ
program_bytes types rs = bytes16 (length types) ++ bytes16 (length rs) ++ joined entry_bytes types ++ joined record_bytes rs
