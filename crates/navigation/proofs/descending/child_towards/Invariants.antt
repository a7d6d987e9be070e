-- A child before the hole is passed at each turn.
use Prim.Native.Nat.{◌-◌}
use Rattle.records.specs.View.{records_in}
use Rattle.navigation.proofs.Downward.{Telling}
use Rattle.navigation.proofs.descending.child_towards.Given as goal

abbrev pub invariant-loop-first : goal.invariant-loop-first
invariant-loop-first l = Telling (records_in l.w) l.first l.p l.at l.j

abbrev pub decreases-loop-first : goal.decreases-loop-first
decreases-loop-first l = l.p - l.at
