-- The records from the i-th on are copied.
use Rattle.records.specs.View.{records_in}
use Rattle.zipper.proofs.Filling.{MovingUp}
use Rattle.zipper.proofs.moving.copy_up.Given as goal

abbrev pub invariant-loop-i : goal.invariant-loop-i
invariant-loop-i l = MovingUp (records_in l.fn.w) l.src l.dst l.n (records_in l.w) l.i
