-- At each turn the focus is nearer to the tree.
use Prim.Native.Nat.{◌-◌}
use Rattle.records.specs.View.{records_in}
use Rattle.navigation.proofs.Downward.{Deepening}
use Rattle.navigation.proofs.descending.descend.Given as goal

abbrev pub invariant-loop-at : goal.invariant-loop-at
invariant-loop-at l = Deepening (records_in l.fn.w) l.fn.from l.p (records_in l.w) l.at

abbrev pub decreases-loop-at : goal.decreases-loop-at
decreases-loop-at l = l.p - l.at.r
