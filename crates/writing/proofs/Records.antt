-- The laws of `write_records`: a tree's records from a place of the buffer on, as bytes. Assumes nothing.
use Prim.Native.Nat.{ℕ, ◌+◌, ◌-◌, ◌*◌, ◌^◌, ◌≤◌, ◌<◌}
use native.Mathlib.Omega.{arith}
use native.Mathlib.Nat.{zero-add}
use mathlib.Core.Path.{◌≡◌, refl, sym, ap, ap₂, subst, ◌∙◌}
use mathlib.Core.List.{List, ◌++◌, append-nil}
use lib.ListN.{length, take, drop, length-drop, take-append-drop}
use lib.Seq.{length-take-le, take_all, drop_at, drop-drop, drop-length}
use Rattle.rules.specs.Lists.{joined}
use Rattle.rules.specs.Terms.{Term}
use Rattle.rules.specs.Format.{Record, record_of, record_bytes}
use Rattle.rules.specs.Links.{laid}
use Rattle.rules.proofs.Laid.{length_laid}
use Rattle.rules.proofs.Bytes.{RecordFits, record_back, joined_length}
use Rattle.records.specs.Overwritten.{overwritten}
use Rattle.records.specs.View.{records_in}
use Rattle.records.proofs.Form.{AreBytes, bytes_drop}
use Rattle.records.proofs.Records.{records_length, records_joined_front}
use Rattle.terms.proofs.There.{there_put}
use Rattle.writing.specs.declared.Writer.{Writer}
use Rattle.writing.specs.Slots.{Filled}
use Rattle.writing.specs.Tree.{Writable, CanWrite, WroteTree, Writes}
use Rattle.writing.specs.Program.{RecordsFit, CanWriteRecords, WroteRecords, WritesRecords}

pub joined_records : (rs : List Record) → length (joined record_bytes rs) ≡ 16 * length rs
joined_records = joined_length record_of record_bytes 16 RecordFits (λ x. refl) record_back

-- Slots from the first on, as bytes: those of the records, and then what was there.
filled_bytes : (s : List ℕ) (vs : List Record) (s' : List ℕ) → Filled s 0 vs s' → AreBytes s' → length s' ≡ length s → 16 * length vs ≤ length s
    → s' ≡ joined record_bytes vs ++ drop (16 * length vs) s
filled_bytes s vs s' p b l h =
    let n : length vs ≤ length (records_in s) = omega (arith, records_length s) in
    let e = rw (zero-add (length vs)) at p.beyond in
    let f : take (length vs) (records_in s') ≡ vs = ap (take (length vs)) p.slots ∙ (there_put (records_in s) 0 vs (omega arith)).is in
    sym (take-append-drop (16 * length vs) s') ∙ ap₂ ◌++◌ (records_joined_front s' (length vs) b (omega arith) ∙ ap (joined record_bytes) f) e

-- The part of the buffer from `start` on, as the code lends it and as it comes back.
module _ (rs : List Record) (s : List ℕ) (start : ℕ) where
  abbrev rest : List ℕ
  rest = take (length s - start) (drop start s)

  abbrev with_rest : List ℕ → List ℕ
  with_rest p = take start s ++ (p ++ drop (length s - start) (drop start s))

  rest_is : rest ≡ drop start s
  rest_is = take_all (length s - start) (drop start s) (omega (arith, length-drop start s))

  with_rest_is : start ≤ length s → (p : List ℕ) → with_rest p ≡ take start s ++ p
  with_rest_is h p =
      let e : start + (length s - start) ≡ length s = omega arith in
      ap (λ x. take start s ++ (p ++ x)) (drop-drop (length s - start) start s ∙ ap (λ n. drop n s) e ∙ drop-length s) ∙ ap (◌++◌ (take start s)) (append-nil p)

  -- A tree's records fit there.
  tree_fits : (t : Term) → length s < 2 ^ 64 → RecordsFit rs s start t → Writable rs 0 rest (record { number = 1; length = start }) t
  tree_fits t b h =
      let l : length rest ≡ length s - start = ap length rest_is ∙ length-drop start s in
      record {
        there = h.there;
        counted = omega arith;
        few = omega (arith, h.few);
        room = omega (arith, h.room, records_length rest);
        short = omega (arith, h.room);
      }

  pub can_write_rest : CanWriteRecords rs s start → length s < 2 ^ 64 → CanWrite rs 0 rest (record { number = 1; length = start })
  can_write_rest h b = record { tree = h.tree; can = tree_fits h.tree b h.can }

  pub wrote_rest : (p : List ℕ) (r : Writer) → length s < 2 ^ 64 → length p ≡ length rest → AreBytes (with_rest p) → Writes rs 0 rest p (record { number = 1; length = start }) 0 r
      → WritesRecords rs s (with_rest p) start r.length
  unfolding overwritten
  wrote_rest p r b l y f = record { does = λ t h. go t h (f.does t (tree_fits t b h)) }
    where
      go : (t : Term) → RecordsFit rs s start t → WroteTree rest p (record { number = 1; length = start }) 0 t r → WroteRecords s (with_rest p) start t r.length
      go t h q =
          let z = length_laid 1 0 t in
          let k : length rest ≡ length s - start = ap length rest_is ∙ length-drop start s in
          let room = h.room in
          let front : start ≤ length s = omega arith in
          let bytes : AreBytes p = subst AreBytes (ap (drop start) (with_rest_is front p) ∙ drop_at (take start s) p start (length-take-le start s front)) (bytes_drop (with_rest p) start y) in
          let e : p ≡ joined record_bytes (laid 1 0 t) ++ drop (16 * length (laid 1 0 t)) rest = filled_bytes rest (laid 1 0 t) p q.filled bytes l (omega arith) in
          let d : drop (16 * length (laid 1 0 t)) rest ≡ drop (start + length (joined record_bytes (laid 1 0 t))) s =
          ap (drop (16 * length (laid 1 0 t))) rest_is ∙ drop-drop (16 * length (laid 1 0 t)) start s ∙ ap (λ n. drop (start + n) s) (sym (joined_records (laid 1 0 t))) in
          record { bytes = with_rest_is front p ∙ ap (◌++◌ (take start s)) (e ∙ ap (◌++◌ (joined record_bytes (laid 1 0 t))) d); end = q.long }
