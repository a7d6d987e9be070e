-- `with_numbers`: each field that names a type gets that type's number. Assumes nothing.
use Rattle.std.proofs.Common.{rules}
use Rattle.numbering.proofs.Records.{renumbering}
use Rattle.numbering.proofs.with_numbers.Goals as goal

pub number_named-requires : goal.number_named-requires
number_named-requires c = search (renumbering, rules)

pub number_named-requires-2 : goal.number_named-requires-2
number_named-requires-2 c = search (renumbering, rules)

pub number_named-requires-3 : goal.number_named-requires-3
number_named-requires-3 c = search (renumbering, rules)
