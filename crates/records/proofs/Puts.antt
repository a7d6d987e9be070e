-- A write of an entry or a record, by its bytes: what it does to the view, and to the bytes after it. Assumes nothing.
use Prim.Native.Nat.{ℕ, ◌+◌, ◌*◌, ◌<◌}
use mathlib.Core.Path.{◌≡◌, ap, ◌∙◌}
use mathlib.Core.List.{List}
use lib.ListN.{length, drop}
use Rattle.rules.specs.Types.{Entry}
use Rattle.rules.specs.Format.{Record, entry_bytes, record_bytes}
use Rattle.rules.proofs.Bytes.{EntryFits, RecordFits}
use Rattle.records.specs.Overwritten.{overwritten}
use Rattle.records.specs.View.{entries_in, records_in, EntryPut, RecordPut}
use Rattle.records.proofs.Overwriting.{overwritten_after}
use Rattle.records.proofs.Entries.{entries_write}
use Rattle.records.proofs.Records.{records_room, records_write}

-- The bytes that are written give the view.
pub record_put : (s : List ℕ) (i : ℕ) (x : Record) (s' : List ℕ) → i < length (records_in s) → s' ≡ overwritten s (16 * i) (record_bytes x) → RecordFits x → RecordPut s i x s'
record_put s i x s' h e f = record { within = h; bytes = e; things = ap records_in e ∙ records_write s i x h f }

pub entry_put : (s : List ℕ) (i : ℕ) (x : Entry) (s' : List ℕ) → i < length (entries_in s) → s' ≡ overwritten s (6 * i) (entry_bytes x) → EntryFits x → EntryPut s i x s'
entry_put s i x s' h e f = record { within = h; bytes = e; things = ap entries_in e ∙ entries_write s i x h f }

pub record_put_after : {s : List ℕ} {i : ℕ} {x : Record} {s' : List ℕ} → RecordPut s i x s' → drop (16 * i + 16) s' ≡ drop (16 * i + 16) s
record_put_after {s} {i} {x} {s'} p = ap (drop (16 * i + 16)) p.bytes ∙ overwritten_after s (16 * i) (record_bytes x) (records_room s i p.within)
