-- `State::is_value` answers false wherever the state is at no value.
use Rattle.steps.proofs.Values.{tells_other}
use Rattle.steps.proofs.state.State.is_value.Goals as goal

pub returns-in_default : goal.returns-in_default
returns-in_default c = tells_other _ c.in_default.not-Value
