-- The free bound of a tree is what its root says.
use Rattle.terms.proofs.Readings.{tree_first, bound_reads}
use Rattle.terms.proofs.measuring.bound_at.Goals as goal

pub get-r-requires : goal.get-r-requires
get-r-requires c = search tree_first

pub returns : goal.returns
returns c = search bound_reads
