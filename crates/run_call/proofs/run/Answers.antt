use Rattle.run_call.proofs.Answering.{ran_refused, run_accepted}
use Rattle.run_call.proofs.run.Goals as goal

pub returns-in-Ok : goal.returns-in-Ok
returns-in-Ok c = run_accepted _ _ _ _ _ c.in-Ok.ensures _ _ c.accepted.ensures c.accepted.auto.work

pub returns-in-Err : goal.returns-in-Err
returns-in-Err c = ran_refused _ _ _ _ _ _ c.in-Err.ensures c.refusing.ensures
