-- `State::start`: the tree of the root is loaded to the last slots, and is to be searched. Assumes nothing.
use Rattle.std.proofs.Common.{rules}
use Rattle.steps.proofs.Starting.{starting}
use Rattle.steps.proofs.state.State.start.Goals as goal

pub load-requires : goal.load-requires
load-requires c = search (starting, rules)

pub returns : goal.returns
returns c = search (starting, rules)
