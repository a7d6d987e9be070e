-- Each need is one law of ReplacedSizes.
use borrow.Author.Rules.{rules}
use Rattle.sizes.proofs.ReplacedSizes.{fitting}
use Rattle.sizes.proofs.second_size.Goals as goal

pub argument_size-requires : goal.argument_size-requires
argument_size-requires c = search (fitting, rules)

pub returns-in-Some : goal.returns-in-Some
returns-in-Some c = search (fitting, rules)

pub returns-in-None : goal.returns-in-None
returns-in-None c = search (fitting, rules)
