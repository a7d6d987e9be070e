-- `put_entry` meets its contract: it writes at an entry's place.
use Rattle.std.proofs.Common.{arith}
use Rattle.records.proofs.Entries.{entries_room}
use Rattle.records.proofs.Puts.{entry_put}
use Rattle.records.proofs.put_entry.Goals as goal

pub overflow_mul-i : goal.overflow_mul-i
overflow_mul-i c = omega (arith, entries_room _ _ c.requires)

pub put_entry_at-requires : goal.put_entry_at-requires
put_entry_at-requires c = search entries_room

pub returns : goal.returns
returns c = search entry_put
