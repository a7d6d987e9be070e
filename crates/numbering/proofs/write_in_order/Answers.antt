-- `write_in_order`: no type has a number at first, and there is room for the table. Assumes nothing.
use Rattle.std.proofs.Common.{rules}
use Rattle.numbering.proofs.InOrder.{can_write_with}
use Rattle.numbering.proofs.write_in_order.Goals as goal

pub write_with-requires : goal.write_with-requires
write_with-requires c = search (can_write_with, rules)
