-- `put_at` meets its contract: the fields that it writes make the record.
use Rattle.records.proofs.Writing.{record_written}
use Rattle.records.proofs.put_at.Goals as goal

pub returns : goal.returns
returns c = search record_written
