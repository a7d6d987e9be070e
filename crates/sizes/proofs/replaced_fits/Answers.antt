-- Each need is one law of ReplacedSizes.
use borrow.Author.Rules.{rules}
use Rattle.sizes.proofs.ReplacedSizes.{fitting}
use Rattle.sizes.proofs.replaced_fits.Goals as goal

pub returns-then-surely_fits : goal.returns-then-surely_fits
returns-then-surely_fits c = search (fitting, rules)

pub argument_size-first-requires : goal.argument_size-first-requires
argument_size-first-requires c = search (fitting, rules)

pub returns : goal.returns
returns c = search (fitting, rules)
