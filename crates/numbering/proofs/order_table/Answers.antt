-- `order_table`: an entry is put in each turn. Assumes nothing.
use Rattle.std.proofs.Common.{rules}
use Rattle.numbering.proofs.Tables.{ordering}
use Rattle.numbering.proofs.order_table.Goals as goal

pub loop-i-init : goal.loop-i-init
loop-i-init c = search (ordering, rules)

pub order_entry-requires : goal.order_entry-requires
order_entry-requires c = search (ordering, rules)

pub loop-i-preserved : goal.loop-i-preserved
loop-i-preserved c = search (ordering, rules)
