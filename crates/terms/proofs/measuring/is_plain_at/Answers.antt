-- Whether a tree is plain is what its root says.
use Rattle.terms.proofs.Readings.{tree_first, plain_reads}
use Rattle.terms.proofs.measuring.is_plain_at.Goals as goal

pub get-r-requires : goal.get-r-requires
get-r-requires c = search tree_first

pub returns : goal.returns
returns c = search plain_reads
