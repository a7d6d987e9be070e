-- Parts are earlier entries, so the type's number falls.
use Rattle.numbering.proofs.+need.Given as goal

abbrev pub decreases-need : goal.decreases-need
decreases-need l = l.x
