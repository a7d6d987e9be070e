-- At each turn the focus is nearer to the root.
use Rattle.records.specs.View.{records_in}
use Rattle.zipper.proofs.Wholes.{ClosingAll}
use Rattle.zipper.proofs.focus.close_all.Given as goal

abbrev pub invariant-loop-at : goal.invariant-loop-at
invariant-loop-at l = ClosingAll (records_in l.fn.w) l.fn.z (records_in l.w) l.at

abbrev pub decreases-loop-at : goal.decreases-loop-at
decreases-loop-at l = l.at.s
