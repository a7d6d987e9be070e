-- The laws by which a caller knows a list of bytes as type entries of 6 bytes: instances of those of Views. Assumes nothing.
use Prim.Native.Nat.{ℕ, ◌+◌, ◌*◌, ◌/◌, ◌≤◌, ◌<◌}
use mathlib.Core.Path.{◌≡◌}
use mathlib.Core.List.{List}
use lib.ListN.{length, get_or, take, drop, set}
use Rattle.rules.specs.Lists.{All, joined}
use Rattle.rules.specs.Types.{Entry, no_entry}
use Rattle.rules.specs.Format.{entry_of, entry_bytes}
use Rattle.rules.proofs.Bytes.{EntryFits}
use Rattle.records.specs.Overwritten.{overwritten}
use Rattle.records.specs.View.{entries_in}
use Rattle.records.proofs.Form.{AreBytes}
use Rattle.records.proofs.Fields.{entry_form}
use Rattle.records.proofs.Views.{viewed_length, viewed_room, viewed_read, viewed_fit, viewed_front, viewed_write, viewed_joined}

-- How many there are, and which places have one.
pub entries_length : (s : List ℕ) → length (entries_in s) ≡ length s / 6
unfolding entries_in
entries_length = viewed_length entry_form

pub entries_room : (s : List ℕ) (i : ℕ) → i < length (entries_in s) → 6 * i + 6 ≤ length s
unfolding entries_in
entries_room = viewed_room entry_form

-- What is read.
pub entries_read : (s : List ℕ) (i : ℕ) → i < length (entries_in s) → get_or (entries_in s) i no_entry ≡ entry_of (drop (6 * i) s)
unfolding entries_in
entries_read s i h = viewed_read entry_form s i no_entry h

-- What a write does.
pub entries_write : (s : List ℕ) (i : ℕ) (x : Entry) → i < length (entries_in s) → EntryFits x → entries_in (overwritten s (6 * i) (entry_bytes x)) ≡ set (entries_in s) i x
unfolding entries_in
entries_write = viewed_write entry_form

-- The first bytes are the first entries.
pub entries_front : (s : List ℕ) (n : ℕ) → 6 * n ≤ length s → entries_in (take (6 * n) s) ≡ take n (entries_in s)
unfolding entries_in
entries_front = viewed_front entry_form

-- What is read from bytes fits its fields.
pub entries_fit : (s : List ℕ) → AreBytes s → All EntryFits (entries_in s)
unfolding entries_in
entries_fit = viewed_fit entry_form

-- The bytes are the entries, written one after another.
pub entries_joined : (s : List ℕ) (n : ℕ) → AreBytes s → length s ≡ 6 * n → joined entry_bytes (entries_in s) ≡ s
unfolding entries_in
entries_joined = viewed_joined entry_form
