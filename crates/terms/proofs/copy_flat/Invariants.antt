-- After i turns, i records are copied.
use Rattle.records.specs.View.{records_in}
use Rattle.terms.proofs.Moving.{Copying}
use Rattle.terms.proofs.copy_flat.Given as goal

abbrev pub invariant-loop-i : goal.invariant-loop-i
invariant-loop-i l = Copying (records_in l.fn.w) (records_in l.w) l.src l.dst l.n l.i
