-- The laws by which a caller knows a list of bytes as records of 16 bytes: instances of those of Views. Assumes nothing.
use Prim.Native.Nat.{ℕ, ◌+◌, ◌*◌, ◌/◌, ◌≤◌, ◌<◌}
use mathlib.Core.Path.{◌≡◌}
use mathlib.Core.List.{List}
use lib.ListN.{length, get_or, take, drop, set}
use Rattle.rules.specs.Lists.{All, joined}
use Rattle.rules.specs.Format.{Record, record_of, record_bytes, no_record}
use Rattle.rules.proofs.Bytes.{RecordFits}
use Rattle.records.specs.Overwritten.{overwritten}
use Rattle.records.specs.View.{records_in}
use Rattle.records.proofs.Form.{AreBytes}
use Rattle.records.proofs.Fields.{record_form}
use Rattle.records.proofs.Views.{viewed_length, viewed_room, viewed_read, viewed_fit, viewed_front, viewed_write, viewed_joined_front}

-- How many there are, and which places have one.
pub records_length : (s : List ℕ) → length (records_in s) ≡ length s / 16
unfolding records_in
records_length = viewed_length record_form

pub records_room : (s : List ℕ) (i : ℕ) → i < length (records_in s) → 16 * i + 16 ≤ length s
unfolding records_in
records_room = viewed_room record_form

-- What is read.
pub records_read : (s : List ℕ) (i : ℕ) → i < length (records_in s) → get_or (records_in s) i no_record ≡ record_of (drop (16 * i) s)
unfolding records_in
records_read s i h = viewed_read record_form s i no_record h

-- What is read from bytes fits its fields.
pub records_fit : (s : List ℕ) → AreBytes s → All RecordFits (records_in s)
unfolding records_in
records_fit = viewed_fit record_form

-- What a write does.
pub records_write : (s : List ℕ) (i : ℕ) (x : Record) → i < length (records_in s) → RecordFits x → records_in (overwritten s (16 * i) (record_bytes x)) ≡ set (records_in s) i x
unfolding records_in
records_write = viewed_write record_form

-- The first bytes are the first records.
pub records_front : (s : List ℕ) (n : ℕ) → 16 * n ≤ length s → records_in (take (16 * n) s) ≡ take n (records_in s)
unfolding records_in
records_front = viewed_front record_form

-- They are these, written one after another.
pub records_joined_front : (s : List ℕ) (n : ℕ) → AreBytes s → 16 * n ≤ length s → take (16 * n) s ≡ joined record_bytes (take n (records_in s))
unfolding records_in
records_joined_front = viewed_joined_front record_form
