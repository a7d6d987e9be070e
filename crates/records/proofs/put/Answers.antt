-- `put` meets its contract: it writes at a record's place.
use Rattle.std.proofs.Common.{arith}
use Rattle.records.proofs.Records.{records_room}
use Rattle.records.proofs.Puts.{record_put}
use Rattle.records.proofs.put.Goals as goal

pub overflow_mul-i : goal.overflow_mul-i
overflow_mul-i c = omega (arith, records_room _ _ c.requires)

pub put_at-requires : goal.put_at-requires
put_at-requires c = search records_room

pub returns : goal.returns
returns c = search record_put
