-- The bit is there, or it is set.
use Rattle.fields.proofs.BitLaws.{comes_in}
use Rattle.fields.proofs.insert.Goals as goal

pub returns : goal.returns
returns c = search comes_in
