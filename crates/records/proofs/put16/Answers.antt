-- `put16` meets its contract: the two bytes that it stores are the field's.
use Rattle.records.proofs.Overwriting.{overwritten_pair}
use Rattle.records.proofs.put16.Goals as goal

pub returns : goal.returns
returns c = rw c.to_le_bytes-bytes.ensures (overwritten_pair _ _ _ _ c.requires)
