-- After i turns, i bytes are copied.
use Rattle.writing.proofs.Copying.{Copying}
use Rattle.writing.proofs.copy_bytes.Given as goal

abbrev pub invariant-loop-i : goal.invariant-loop-i
invariant-loop-i l = Copying l.from l.fn.out l.at l.i l.out
