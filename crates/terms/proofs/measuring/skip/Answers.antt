-- The size of a tree is what its root says.
use Rattle.std.proofs.Common.{rules}
use Rattle.terms.proofs.Readings.{tree_first, skip_fits, skip_reads}
use Rattle.terms.proofs.measuring.skip.Goals as goal

pub get-r-requires : goal.get-r-requires
get-r-requires c = search tree_first

pub overflow_add-result : goal.overflow_add-result
overflow_add-result c = let h = skip_fits _ _ _ c.requires c.get-r.ensures in search (h, rules)

pub returns : goal.returns
returns c = search skip_reads
