-- `need_record`: the needs of its three fields, one after another. Assumes nothing.
use Rattle.std.proofs.Common.{rules}
use Rattle.numbering.proofs.Records.{recording}
use Rattle.numbering.proofs.need_record.Goals as goal

pub need_field-first-requires : goal.need_field-first-requires
need_field-first-requires c = search (recording, rules)

pub need_field-second-requires : goal.need_field-second-requires
need_field-second-requires c = search (recording, rules)

pub need_field-requires : goal.need_field-requires
need_field-requires c = search (recording, rules)

pub returns : goal.returns
returns c = search (recording, rules)
