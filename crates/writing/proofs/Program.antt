-- The laws of `write_program`: the counts, the table and the records are the program. Assumes nothing.
use Prim.Native.Nat.{ℕ, ◌+◌, ◌*◌}
use native.Mathlib.Omega.{arith}
use native.Mathlib.Nat.{zero-add}
use mathlib.Core.Path.{◌≡◌, sym, ap, ◌∙◌}
use mathlib.Core.List.{List, ◌++◌}
use lib.ListN.{length, drop, length-append}
use Rattle.rules.specs.Lists.{joined}
use Rattle.rules.specs.Terms.{Term, size}
use Rattle.rules.specs.Format.{Record, bytes16, record_bytes, program_bytes}
use Rattle.rules.specs.Links.{laid, written}
use Rattle.rules.proofs.Laid.{length_laid}
use Rattle.records.specs.Overwritten.{overwritten}
use Rattle.records.specs.View.{entries_in}
use Rattle.records.proofs.Form.{AreBytes}
use Rattle.records.proofs.Entries.{entries_joined}
use Rattle.records.proofs.Overwriting.{overwritten_twice}
use Rattle.writing.specs.Program.{RecordsFit, WritesRecords, ProgramFits, WroteProgram, WritesProgram}
use Rattle.writing.proofs.Records.{joined_records}

module _ {table : List ℕ} {rs : List Record} {s : List ℕ} where
  -- The records are written where the table ends.
  records_fit : (s₃ : List ℕ) → length s₃ ≡ length s → (t : Term) → ProgramFits table rs s t → RecordsFit rs s₃ (4 + length table) t
  records_fit s₃ l t h = record { there = h.there; few = omega (arith, h.size_is, h.few); room = omega (arith, h.entries, h.size_is, h.room) }

  -- A program is its four parts.
  program_parts : AreBytes table → (t : Term) → ProgramFits table rs s t
      → written (entries_in table) t ≡ bytes16 (length (entries_in table)) ++ bytes16 (length rs) ++ table ++ joined record_bytes (laid 1 0 t)
  unfolding program_bytes
  program_parts b t h =
      let f : length (laid 1 0 t) ≡ length rs = length_laid 1 0 t ∙ h.size_is in
      rw (f, entries_joined table (length (entries_in table)) b h.entries)

  pub program_written : {types count : ℕ} {s₁ s₂ s₃ s₄ : List ℕ} {r : ℕ} → AreBytes table → types ≡ length (entries_in table) → count ≡ length rs → s₁ ≡ overwritten s 0 (bytes16 types)
      → s₂ ≡ overwritten s₁ 2 (bytes16 count) → s₃ ≡ overwritten s₂ 4 table → length s₃ ≡ length s → WritesRecords rs s₃ s₄ (4 + length table) r → WritesProgram table rs s s₄ r
  unfolding overwritten
  program_written {types} {count} {s₁} {s₂} {s₃} {s₄} {r} b k m e₁ e₂ e₃ l f = record { does = go }
    where
      go : (t : Term) → ProgramFits table rs s t → WroteProgram table s s₄ t r
      go t h =
          let q = f.does t (records_fit s₃ l t h) in
          let z = h.entries in
          let y = h.room in
          let front = bytes16 types ++ bytes16 count ++ table in
          let j = joined record_bytes (laid 1 0 t) in
          let begun : s₃ ≡ overwritten s 0 front =
          e₃ ∙ ap (λ x. overwritten x 4 table) (e₂ ∙ ap (λ x. overwritten x 2 (bytes16 count)) e₁ ∙ overwritten_twice s 0 (bytes16 types) (omega arith) (bytes16 count))
          ∙ overwritten_twice s 0 (bytes16 types ++ bytes16 count) (omega arith) table in
          let n : 4 + length table ≡ 0 + length front = omega arith in
          let whole : s₄ ≡ overwritten s 0 (front ++ j) =
          q.bytes ∙ ap (λ x. overwritten x (4 + length table) j) begun ∙ ap (λ n. overwritten (overwritten s 0 front) n j) n ∙ overwritten_twice s 0 front (omega arith) j in
          let p : front ++ j ≡ written (entries_in table) t = sym (program_parts b t h ∙ rw (k, m)) in
          let long : 4 + length table + 16 * size t ≡ length (written (entries_in table) t) =
          sym (sym (ap length p) ∙ length-append front j ∙ omega (arith, joined_records (laid 1 0 t), length_laid 1 0 t)) in
          record {
            bytes = whole ∙ ap (overwritten s 0) p ∙ ap (λ n. written (entries_in table) t ++ drop n s) (zero-add (length (written (entries_in table) t)));
            end = q.end ∙ long;
            long = omega (arith, q.end);
          }
