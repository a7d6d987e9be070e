-- One byte more is copied.
use Rattle.writing.proofs.Copying.{copied_more}
use Rattle.writing.proofs.copy_bytes.Goals as goal

pub loop-i-preserved : goal.loop-i-preserved
loop-i-preserved c = copied_more _ _ _ _ _ c.loop-i.invariant c.loop-i-test.true c.requires
