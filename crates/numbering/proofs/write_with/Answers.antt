-- `write_with`: what has its numbers and its order is written. Assumes nothing.
use Rattle.std.proofs.Common.{rules}
use Rattle.numbering.proofs.InOrder.{in_order, can_write, all_written}
use Rattle.numbering.proofs.write_with.Goals as goal

pub renumber-used-requires : goal.renumber-used-requires
renumber-used-requires c = search (in_order, rules)

pub order_table-requires : goal.order_table-requires
order_table-requires c = search (in_order, rules)

pub slice_bounds-write_program-end : goal.slice_bounds-write_program-end
slice_bounds-write_program-end c = search (in_order, rules)

pub slice_bounds-write_program-end-2 : goal.slice_bounds-write_program-end-2
slice_bounds-write_program-end-2 c = search (in_order, rules)

pub write_program-length-requires : goal.write_program-length-requires
write_program-length-requires c = search (can_write, c.order_table.ensures, c.renumber-used.ensures, c.requires, rules)

pub get-root-requires : goal.get-root-requires
get-root-requires c = search (in_order, rules)

pub returns : goal.returns
returns c = search (all_written, c.get-root.ensures, c.write_program-length.ensures, c.order_table.ensures, c.renumber-used.ensures, c.requires, rules)
