-- What is wanted is held, and the record's fault with it is the refusal.
use Rattle.assigning.proofs.Faults.{assigns_none}
use Rattle.assigning.proofs.assign.Goals as goal

pub returns-in-Err : goal.returns-in-Err
returns-in-Err c = assigns_none _ _ c.entries.ensures c.args.binders.now _ _ _ c.wanted-w.ensures _ _ c.hold-ty.ensures _ _ _ c.in-Err.ensures
