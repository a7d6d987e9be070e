-- The parts are put into the set.
use Rattle.fields.proofs.NoteLaws.{note_told}
use Rattle.fields.proofs.note.Goals as goal

pub returns : goal.returns
returns c = search note_told
