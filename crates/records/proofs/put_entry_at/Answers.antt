-- `put_entry_at` meets its contract: the fields that it writes make the entry.
use Rattle.records.proofs.Writing.{entry_written}
use Rattle.records.proofs.put_entry_at.Goals as goal

pub returns : goal.returns
returns c = search entry_written
