-- The invariant of `put_types`: the first i types are put.
use Rattle.records.specs.View.{records_in}
use Rattle.retyping.proofs.Putting.{Putting}
use Rattle.retyping.proofs.put_types.Given as goal

abbrev pub invariant-loop-i : goal.invariant-loop-i
invariant-loop-i l = Putting (records_in l.fn.w) l.given (records_in l.w) l.i
