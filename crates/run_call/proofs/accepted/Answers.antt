use Rattle.run_call.proofs.Accepting.{accept_done}
use Rattle.run_call.proofs.accepted.Goals as goal

pub returns : goal.returns
returns c = accept_done _ _ _ c.requires _ _ _ c.run_program-done.ensures _ c.number.ensures _ c.root_type-root.ensures
