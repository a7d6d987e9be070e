-- `order_entry`: where the type has no number nothing is put, else its entry by new numbers. Assumes nothing.
use Rattle.std.proofs.Common.{rules}
use Rattle.numbering.proofs.Tables.{placing_entry}
use Rattle.numbering.proofs.order_entry.Goals as goal

pub returns-then-number-eq0 : goal.returns-then-number-eq0
returns-then-number-eq0 c = search (placing_entry, rules)

pub returns : goal.returns
returns c = search (placing_entry, rules)
