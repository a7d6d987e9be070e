-- `State::proceed` meets its contract.
use Rattle.std.proofs.Common.{rules}
use Rattle.steps.proofs.Contracting.{proceeding}
use Rattle.steps.proofs.state.State.proceed.Goals as goal

pub put_ahead-requires : goal.put_ahead-requires
put_ahead-requires c = search (proceeding, rules)

pub overflow_cast-result-2 : goal.overflow_cast-result-2
overflow_cast-result-2 c = search (proceeding, rules)

pub returns : goal.returns
returns c = search (proceeding, rules)
