-- At each turn the focus is nearer to the root.
use Rattle.records.specs.View.{records_in}
use Rattle.navigation.proofs.Climbing.{Climbing}
use Rattle.navigation.proofs.ascending.ascend.Given as goal

abbrev pub invariant-loop-at : goal.invariant-loop-at
invariant-loop-at l = Climbing (records_in l.fn.w) l.fn.z l.level (records_in l.w) l.at l.inner

abbrev pub decreases-loop-at : goal.decreases-loop-at
decreases-loop-at l = l.at.s
