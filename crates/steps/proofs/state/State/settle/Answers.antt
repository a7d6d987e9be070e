-- A redex stands before the gap as it is, by the law of settling.
use Rattle.std.proofs.Common.{rules}
use Rattle.steps.proofs.Output.{settling}
use Rattle.steps.proofs.state.State.settle.Goals as goal

pub returns-in-Redex : goal.returns-in-Redex
returns-in-Redex c = search (settling, rules)
