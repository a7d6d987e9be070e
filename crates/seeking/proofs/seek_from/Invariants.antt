-- The term is laid out around a focus that is to be searched. The measure is how many slots the right side has.
use Prim.Native.Nat.{◌-◌}
use Rattle.records.specs.View.{records_in}
use Rattle.seeking.proofs.SearchLoop.{Onward}
use Rattle.seeking.proofs.seek_from.Given as goal

abbrev pub invariant-loop-b : goal.invariant-loop-b
invariant-loop-b l = Onward (records_in l.fn.w) (records_in l.w) l.fn.from l.a

abbrev pub decreases-loop-b : goal.decreases-loop-b
decreases-loop-b l = 4096 - l.a.r
