-- A record's place is in range.
use Rattle.std.proofs.Common.{arith}
use Rattle.records.proofs.Records.{records_room}
use Rattle.records.proofs.get.Goals as goal

pub overflow_mul-i : goal.overflow_mul-i
overflow_mul-i c = omega (arith, records_room _ _ c.requires)

pub record_at-requires : goal.record_at-requires
record_at-requires c = search records_room
