-- Before the tree at hand is copied. What falls is the number of records from src on, and in the loop that of the records left.
use Rattle.std.proofs.Common.{◌-◌, length, []}
use Rattle.records.specs.View.{records_in}
use Rattle.copies.proofs.RaisedRows.{Pending}
use Rattle.copies.proofs.raising.+copy_raised.Given as goal

abbrev pub decreases-copy_raised : goal.decreases-copy_raised
decreases-copy_raised l = length (records_in l.w.now) - l.src

abbrev pub invariant-loop-done : goal.invariant-loop-done
invariant-loop-done l = Pending (records_in l.fn.w) l.src l.dst l.n l.d (records_in l.w) l.done []

abbrev pub decreases-loop-done : goal.decreases-loop-done
decreases-loop-done l = l.all - l.done
