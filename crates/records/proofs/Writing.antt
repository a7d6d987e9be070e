-- Fields that are written one after another write the number or the record that they make: for the proofs of the code. Assumes nothing.
use Prim.Native.Nat.{ℕ, ◌+◌, ◌/◌, ◌%◌, ◌≤◌, ◌<◌}
use native.Mathlib.Omega.{arith}
use mathlib.Core.Path.{◌≡◌, ap, ◌∙◌}
use mathlib.Core.List.{List, ◌++◌}
use lib.ListN.{length}
use Rattle.rules.specs.Types.{Entry}
use Rattle.rules.specs.Format.{Record, bytes16, bytes32, entry_bytes, record_bytes}
use Rattle.records.specs.Overwritten.{overwritten}
use Rattle.records.proofs.Overwriting.{overwritten_twice}

-- One more field after a front that is written.
module _ (s : List ℕ) (x : ℕ) where
  field_written : (front b : List ℕ) {s₁ s₂ : List ℕ} → x + length front ≤ length s → s₁ ≡ overwritten s x front
      → s₂ ≡ overwritten s₁ (x + length front) b → s₂ ≡ overwritten s x (front ++ b)
  field_written front b h e₁ e₂ = e₂ ∙ ap (λ r. overwritten r (x + length front) b) e₁ ∙ overwritten_twice s x front h b

  pub u32_written : (v : ℕ) {s₁ s₂ : List ℕ} → x + 3 < length s → s₂ ≡ overwritten s₁ (x + 2) (bytes16 (v / 65536))
      → s₁ ≡ overwritten s x (bytes16 (v % 65536)) → s₂ ≡ overwritten s x (bytes32 v)
  u32_written v h e₂ e₁ = field_written _ _ (omega arith) e₁ e₂

  pub entry_written : (e : Entry) {s₁ s₂ s₃ : List ℕ} → x + 6 ≤ length s → s₃ ≡ overwritten s₂ (x + 4) (bytes16 e.b)
      → s₂ ≡ overwritten s₁ (x + 2) (bytes16 e.a) → s₁ ≡ overwritten s x (bytes16 e.kind) → s₃ ≡ overwritten s x (entry_bytes e)
  entry_written e h e₃ e₂ e₁ = field_written _ _ (omega arith) (field_written _ _ (omega arith) e₁ e₂) e₃

  pub record_written : (r : Record) {s₁ s₂ s₃ s₄ s₅ s₆ s₇ : List ℕ} → x + 16 ≤ length s → s₇ ≡ overwritten s₆ (x + 12) (bytes32 r.fields.value)
      → s₆ ≡ overwritten s₅ (x + 10) (bytes16 r.next) → s₅ ≡ overwritten s₄ (x + 8) (bytes16 r.first)
      → s₄ ≡ overwritten s₃ (x + 6) (bytes16 r.fields.b) → s₃ ≡ overwritten s₂ (x + 4) (bytes16 r.fields.a)
      → s₂ ≡ overwritten s₁ (x + 2) (bytes16 r.fields.type) → s₁ ≡ overwritten s x (bytes16 r.kind) → s₇ ≡ overwritten s x (record_bytes r)
  record_written r h e₇ e₆ e₅ e₄ e₃ e₂ e₁ = field_written _ _ (omega arith) (field_written _ _ (omega arith) (field_written _ _ (omega arith)
      (field_written _ _ (omega arith) (field_written _ _ (omega arith) (field_written _ _ (omega arith) e₁ e₂) e₃) e₄) e₅) e₆) e₇
