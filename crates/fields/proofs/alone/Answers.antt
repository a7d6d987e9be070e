use Rattle.std.proofs.Common.{rules}
use Rattle.fields.proofs.Entering.{entering}
use Rattle.fields.proofs.alone.Goals as goal

pub returns-then-eq : goal.returns-then-eq
returns-then-eq c = search (entering, rules)

pub loop-m-preserved : goal.loop-m-preserved
loop-m-preserved c = search (entering, rules)

pub returns : goal.returns
returns c = search (entering, rules)
