-- The binder that is written is the innermost.
use Rattle.std.proofs.Common.{refl}
use Rattle.judging.proofs.Stacking.{binds_one}
use Rattle.judging.proofs.Binders.push.Goals as goal

pub returns : goal.returns
returns c = binds_one _ _ _ _ c.requires refl refl
