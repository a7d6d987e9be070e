-- `State::step` meets its contract.
use Rattle.std.proofs.Common.{rules}
use Rattle.steps.proofs.Stepping.{stepping}
use Rattle.steps.proofs.state.State.step.Goals as goal

pub proceed-made-requires : goal.proceed-made-requires
proceed-made-requires c = search (stepping, rules)

pub returns-then-fits : goal.returns-then-fits
returns-then-fits c = search (stepping, rules)

pub returns : goal.returns
returns c = search (stepping, rules)
