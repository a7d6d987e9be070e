-- `put32` meets its contract: its two halves are the field.
use Rattle.records.proofs.Writing.{u32_written}
use Rattle.records.proofs.put32.Goals as goal

pub returns : goal.returns
returns c = search u32_written
