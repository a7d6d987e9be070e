-- Each need is one law of ReplacedSizes.
use borrow.Author.Rules.{rules}
use Rattle.sizes.proofs.ReplacedSizes.{fitting}
use Rattle.sizes.proofs.surely_fits.Goals as goal

pub argument_size-first-requires : goal.argument_size-first-requires
argument_size-first-requires c = search (fitting, rules)

pub returns-then-tree_size-max : goal.returns-then-tree_size-max
returns-then-tree_size-max c = search (fitting, rules)

pub returns-else-tree_size-max : goal.returns-else-tree_size-max
returns-else-tree_size-max c = search (fitting, rules)
