-- The two forms: a type entry and a record, field by field. Assumes nothing.
use Prim.Native.Nat.{ℕ, suc, ◌+◌, ◌/◌, ◌%◌, ◌≤◌, ◌<◌}
use native.Mathlib.Nat.{mod-eq_of_lt}
use native.Mathlib.Numerals.{add-one, add-two}
use native.Mathlib.Omega.{arith}
use mathlib.Core.Path.{◌≡◌, refl, sym, ap₂, ◌∙◌}
use mathlib.Core.List.{List, [], ◌++◌, append_assoc}
use lib.Dec.{lit<}
use lib.ListN.{length, get_or, take}
use lib.Seq.{get_or-take, take-suc}
use Rattle.rules.specs.Format.{u16, u32, bytes16, bytes32, entry_of, record_of, entry_bytes, record_bytes}
use Rattle.rules.proofs.Bytes.{EntryFits, RecordFits, entry_back, record_back}
use Rattle.records.proofs.Form.{AreBytes, Form}

-- A field in a front of the bytes is read there as in the whole.
u16_front : (m at : ℕ) (s : List ℕ) → at + 1 < m → u16 (take m s) at ≡ u16 s at
u16_front m at s h =
    let l : at < m = omega arith in
    rw (get_or-take m s at 0, get_or-take m s (at + 1) 0)

u32_front : (m at : ℕ) (s : List ℕ) → at + 2 + 1 < m → u32 (take m s) at ≡ u32 s at
u32_front m at s h = rw (u16_front m at s (omega arith), u16_front m (at + 2) s h)

entry_front : (s : List ℕ) → entry_of (take 6 s) ≡ entry_of s
entry_front s = λ i. record { kind = u16_front 6 0 s (lit< tt) i; a = u16_front 6 2 s (lit< tt) i; b = u16_front 6 4 s (lit< tt) i }

record_front : (s : List ℕ) → record_of (take 16 s) ≡ record_of s
record_front s = λ i. record {
  kind = u16_front 16 0 s (lit< tt) i;
  fields = record { type = u16_front 16 2 s (lit< tt) i; a = u16_front 16 4 s (lit< tt) i; b = u16_front 16 6 s (lit< tt) i; value = u32_front 16 12 s (lit< tt) i };
  first = u16_front 16 8 s (lit< tt) i;
  next = u16_front 16 10 s (lit< tt) i;
}

module _ (s : List ℕ) (bytes : AreBytes s) where
  -- A field that is read fits.
  pub u16_fits : (at : ℕ) → u16 s at < 65536
  u16_fits at = omega (arith, bytes at, bytes (at + 1))

  u32_fits : (at : ℕ) → u32 s at < 4294967296
  u32_fits at = omega (arith, u16_fits at, u16_fits (at + 2))

  record_fits : RecordFits (record_of s)
  record_fits = record {
    kind = u16_fits 0;
    type = u16_fits 2;
    a = u16_fits 4;
    b = u16_fits 6;
    value = u32_fits 12;
    first = u16_fits 8;
    next = u16_fits 10;
  }

  -- A field that is read is written back: after the bytes before it come its own.
  u16_forth : (front : List ℕ) (at : ℕ) → at + 1 < length s → front ≡ take at s → front ++ bytes16 (u16 s at) ≡ take (at + 2) s
  u16_forth front at h e =
      let low : u16 s at % 256 ≡ get_or s at 0 = omega (arith, bytes at) in
      let rest : u16 s at / 256 ≡ get_or s (at + 1) 0 = omega (arith, bytes at) in
      let high : u16 s at / 256 % 256 ≡ get_or s (at + 1) 0 = rw rest (mod-eq_of_lt (bytes (at + 1))) in
      let first : at < length s = omega arith in
      let second : suc at < length s = omega arith in
      rw (low, high, e, add-one at, add-two at, take-suc s (suc at) 0, take-suc s at 0) (sym (append_assoc (take at s) _ _))

  u32_forth : (front : List ℕ) (at : ℕ) → at + 2 + 1 < length s → front ≡ take at s → front ++ bytes32 (u32 s at) ≡ take (at + 4) s
  u32_forth front at h e =
      let low : u32 s at % 65536 ≡ u16 s at = omega (arith, u16_fits at) in
      let high : u32 s at / 65536 ≡ u16 s (at + 2) = omega (arith, u16_fits at) in
      let end : at + 2 + 2 ≡ at + 4 = omega arith in
      ap₂ (λ l r. front ++ (bytes16 l ++ bytes16 r)) low high
      ∙ sym (append_assoc front _ _)
      ∙ rw end at (u16_forth _ (at + 2) h (u16_forth front at (omega arith) e))

  entry_forth : 6 ≤ length s → entry_bytes (entry_of s) ≡ take 6 s
  entry_forth h = u16_forth _ 4 (omega arith) (u16_forth _ 2 (omega arith) (u16_forth [] 0 (omega arith) refl))

  record_forth : 16 ≤ length s → record_bytes (record_of s) ≡ take 16 s
  record_forth h =
      u32_forth _ 12 (omega arith) (u16_forth _ 10 (omega arith) (u16_forth _ 8 (omega arith)
      (u16_forth _ 6 (omega arith) (u16_forth _ 4 (omega arith) (u16_forth _ 2 (omega arith) (u16_forth [] 0 (omega arith) refl))))))

pub entry_form : Form entry_of entry_bytes 6 EntryFits
entry_form = record {
  wide = lit< tt;
  long = λ x. refl;
  front = entry_front;
  back = entry_back;
  forth = entry_forth;
  fits = λ s b. (u16_fits s b 0, u16_fits s b 2, u16_fits s b 4);
}

pub record_form : Form record_of record_bytes 16 RecordFits
record_form = record {
  wide = lit< tt;
  long = λ x. refl;
  front = record_front;
  back = record_back;
  forth = record_forth;
  fits = record_fits;
}
