-- After i turns, the entries of types 1 to i are put.
use Rattle.records.specs.View.{entries_in}
use Rattle.numbering.proofs.Tables.{Ordering}
use Rattle.numbering.proofs.order_table.Given as goal

abbrev pub invariant-loop-i : goal.invariant-loop-i
invariant-loop-i l = Ordering (entries_in l.table) l.new (entries_in l.fn.ordered) l.i (entries_in l.ordered)
