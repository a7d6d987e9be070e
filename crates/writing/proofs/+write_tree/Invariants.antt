-- The invariant of `write_tree`: so many children are written. What falls in its calls of itself is what is left of the bytes that it reads from.
use Rattle.std.proofs.Common.{length, ◌-◌}
use Rattle.records.specs.View.{records_in}
use Rattle.writing.proofs.Tree.{Writing}
use Rattle.writing.proofs.+write_tree.Given as goal

abbrev pub decreases-write_tree : goal.decreases-write_tree
decreases-write_tree l = length l.w.now - l.i

abbrev pub invariant-loop-child : goal.invariant-loop-child
invariant-loop-child l = Writing (records_in l.w) l.initial.at l.initial.out l.initial.done l.root.children l.out l.done (l.root.children - l.child) l.at
