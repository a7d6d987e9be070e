-- An entry's place is in range.
use Rattle.std.proofs.Common.{arith}
use Rattle.records.proofs.Entries.{entries_room}
use Rattle.records.proofs.get_entry.Goals as goal

pub overflow_mul-i : goal.overflow_mul-i
overflow_mul-i c = omega (arith, entries_room _ _ c.requires)

pub entry_at-requires : goal.entry_at-requires
entry_at-requires c = search entries_room
