-- What is written is read back.
use Prim.Native.Nat.{ℕ, suc, ◌+◌, ◌*◌, ◌/◌, ◌%◌, ◌<◌}
use native.Mathlib.Omega.{arith}
use native.Mathlib.Nat.{mul-suc}
use mathlib.Core.List.{List, [], ◌∷◌, ◌++◌, append_assoc, append-nil}
use mathlib.Core.Path.{◌≡◌, refl, ap, ap₂, sym, ◌∙◌}
use lib.ListN.{length, drop, length-append}
use Rattle.rules.specs.Lists.{All, listed, joined}
use Rattle.rules.specs.Types.{Entry, Table}
use Rattle.rules.specs.Format.{Record, entry_of, record_of, type_count, record_count, table_of, records_of, entry_bytes, record_bytes, program_bytes}
use Rattle.rules.proofs.Laid.{beyond}

pub u16_back : (x : ℕ) → x < 65536 → x % 256 + 256 * (x / 256 % 256) ≡ x
u16_back x h = omega arith

pub u32_back : (x : ℕ) → x < 4294967296 → x % 65536 % 256 + 256 * (x % 65536 / 256 % 256) + 65536 * (x / 65536 % 256 + 256 * (x / 65536 / 256 % 256)) ≡ x
u32_back x h = rw (u16_back (x % 65536) (omega arith), u16_back (x / 65536) (omega arith)) (omega arith)

abbrev pub EntryFits : Entry → Type 0
EntryFits x = (x.kind < 65536) × (x.a < 65536) × (x.b < 65536)

pub record RecordFits (r : Record) : Type 0 where
  pub kind : r.kind < 65536
  pub type : r.fields.type < 65536
  pub a : r.fields.a < 65536
  pub b : r.fields.b < 65536
  pub value : r.fields.value < 4294967296
  pub first : r.first < 65536
  pub next : r.next < 65536

pub entry_back : (x : Entry) (rest : List ℕ) → EntryFits x → entry_of (entry_bytes x ++ rest) ≡ x
entry_back x rest (k, a, b) = λ i. record { kind = u16_back x.kind k i; a = u16_back x.a a i; b = u16_back x.b b i }

pub record_back : (r : Record) (rest : List ℕ) → RecordFits r → record_of (record_bytes r ++ rest) ≡ r
record_back r rest h = λ i. record {
  kind = u16_back r.kind h.kind i;
  fields = record { type = u16_back r.fields.type h.type i; a = u16_back r.fields.a h.a i; b = u16_back r.fields.b h.b i; value = u32_back r.fields.value h.value i };
  first = u16_back r.first h.first i;
  next = u16_back r.next h.next i;
}

-- Things of one width, one after another.
module _ {A : Type 0} (of : List ℕ → A) (to : A → List ℕ) (width : ℕ) (Fits : A → Type 0)
    (wide : (x : A) → length (to x) ≡ width) (back : (x : A) (rest : List ℕ) → Fits x → of (to x ++ rest) ≡ x) where
  pub joined_length : (xs : List A) → length (joined to xs) ≡ width * length xs
  unfolding joined
  joined_length [] = omega arith
  joined_length (x ∷ xs) = rw (length-append, mul-suc) (omega (arith, wide x, joined_length xs))

  pub listed_back : (bytes rest : List ℕ) (base from : ℕ) (xs : List A) → All Fits xs → drop (base + width * from) bytes ≡ joined to xs ++ rest
      → listed (λ i. of (drop (base + width * i) bytes)) from (length xs) ≡ xs
  unfolding joined listed
  listed_back bytes rest base from [] h e = refl
  listed_back bytes rest base from (x ∷ xs) (h, k) e =
      let d = rw append_assoc at e in
      let p : base + width * from + length (to x) ≡ base + width * suc from = rw mul-suc (omega (arith, wide x)) in
      ap₂ ◌∷◌ (ap of d ∙ back x (joined to xs ++ rest) h)
      (listed_back bytes rest base (suc from) xs k (rw p at (beyond bytes (base + width * from) (to x) (joined to xs ++ rest) d)))

-- A program's counts, length, table and records.
pub record Back (types : Table) (rs : List Record) : Type 0 where
  pub type_count_back : type_count (program_bytes types rs) ≡ length types
  pub record_count_back : record_count (program_bytes types rs) ≡ length rs
  pub length_back : length (program_bytes types rs) ≡ 4 + 6 * length types + 16 * length rs
  pub table_back : table_of (program_bytes types rs) ≡ types
  pub records_back : records_of (program_bytes types rs) ≡ rs

module _ (types : Table) (rs : List Record) (few : length types < 65536) (small : length rs < 65536) (entries : All EntryFits types) (records : All RecordFits rs) where
  types_count : type_count (program_bytes types rs) ≡ length types
  unfolding program_bytes
  types_count = u16_back (length types) few

  records_count : record_count (program_bytes types rs) ≡ length rs
  unfolding program_bytes
  records_count = u16_back (length rs) small

  entries_length : length (joined entry_bytes types) ≡ 6 * length types
  entries_length = joined_length entry_of entry_bytes 6 EntryFits (λ x. refl) entry_back types

  whole_length : length (program_bytes types rs) ≡ 4 + 6 * length types + 16 * length rs
  unfolding program_bytes
  whole_length = rw length-append (omega (arith, entries_length, joined_length record_of record_bytes 16 RecordFits (λ x. refl) record_back rs))

  after_counts : drop 4 (program_bytes types rs) ≡ joined entry_bytes types ++ joined record_bytes rs
  unfolding program_bytes
  after_counts = refl

  after_types : drop (4 + 6 * length types + 16 * 0) (program_bytes types rs) ≡ joined record_bytes rs ++ []
  after_types =
      let p : 4 + length (joined entry_bytes types) ≡ 4 + 6 * length types + 16 * 0 = omega (arith, entries_length) in
      rw p at (beyond (program_bytes types rs) 4 (joined entry_bytes types) (joined record_bytes rs) after_counts) ∙ sym (append-nil _)

  table_again : table_of (program_bytes types rs) ≡ types
  unfolding table_of
  table_again = rw types_count (listed_back entry_of entry_bytes 6 EntryFits (λ x. refl) entry_back (program_bytes types rs) (joined record_bytes rs) 4 0 types entries after_counts)

  records_again : records_of (program_bytes types rs) ≡ rs
  unfolding records_of
  records_again = rw (types_count, records_count) (listed_back record_of record_bytes 16 RecordFits (λ x. refl) record_back (program_bytes types rs) [] (4 + 6 * length types) 0 rs records after_types)

  pub bytes_back : Back types rs
  bytes_back = record { type_count_back = types_count; record_count_back = records_count; length_back = whole_length; table_back = table_again; records_back = records_again }
