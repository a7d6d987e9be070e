-- A child before the hole is taken off at each turn.
use Rattle.records.specs.View.{records_in}
use Rattle.zipper.proofs.Rows.{Counting}
use Rattle.zipper.proofs.focus.children_after.Given as goal

abbrev pub invariant-loop-at : goal.invariant-loop-at
invariant-loop-at l = Counting (records_in l.w) l.z l.at l.left

abbrev pub decreases-loop-at : goal.decreases-loop-at
decreases-loop-at l = l.left
