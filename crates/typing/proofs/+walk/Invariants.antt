-- The measure: how many records are left.
use Rattle.typing.proofs.+walk.Given as goal

abbrev pub decreases-walk : goal.decreases-walk
decreases-walk l = l.left
