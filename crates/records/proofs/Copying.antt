-- A record that is copied as a block of bytes is put as it was read. Assumes nothing.
use Prim.Native.Nat.{ℕ, ◌+◌, ◌*◌, ◌-◌, ◌≤◌, ◌<◌}
use native.Mathlib.Omega.{arith}
use mathlib.Core.Path.{◌≡◌, sym, ap, subst, ◌∙◌}
use mathlib.Core.List.{List, ◌++◌, append_assoc}
use lib.ListN.{length, get_or, take, drop, length-drop}
use lib.Seq.{paste}
use Rattle.rules.specs.Format.{record_of, record_bytes, no_record}
use Rattle.rules.proofs.Bytes.{RecordFits}
use Rattle.records.specs.Overwritten.{overwritten}
use Rattle.records.specs.View.{records_in, RecordPut}
use Rattle.records.proofs.Form.{AreBytes, bytes_drop}
use Rattle.records.proofs.Fields.{record_form}
use Rattle.records.proofs.Records.{records_room, records_read}
use Rattle.records.proofs.Puts.{record_put}

module _ (s : List ℕ) (i j : ℕ) (from : i < length (records_in s)) (to : j < length (records_in s)) where
  -- Both blocks are in range.
  pub block_ends : 16 * i + 16 ≤ length s
  block_ends = records_room s i from

  pub copy_ends : 16 * j + 16 ≤ length s
  copy_ends = records_room s j to

  pub record_copied : AreBytes s → (s' : List ℕ) → s' ≡ paste s (16 * j) (drop (16 * i) s) (16 * i + 16 - 16 * i) → RecordPut s j (get_or (records_in s) i no_record) s'
  unfolding overwritten
  record_copied bytes s' e =
      let block = drop (16 * i) s in
      let r = get_or (records_in s) i no_record in
      let those : AreBytes block = bytes_drop s (16 * i) bytes in
      let read : r ≡ record_of block = records_read s i from in
      let room : 16 ≤ length block = omega (arith, length-drop (16 * i) s, block_ends) in
      let held : record_bytes r ≡ take 16 block = ap record_bytes read ∙ record_form.forth block those room in
      let sixteen : 16 * i + 16 - 16 * i ≡ 16 = omega arith in
      record_put s j r s' to
      (e ∙ append_assoc (take (16 * j) s) _ _ ∙ ap (λ n. take (16 * j) s ++ (take n block ++ drop (16 * j + n) s)) sixteen ∙ ap (λ vs. take (16 * j) s ++ (vs ++ drop (16 * j + 16) s)) (sym held))
      (subst RecordFits (sym read) (record_form.fits block those))
