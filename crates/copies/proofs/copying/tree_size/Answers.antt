-- `tree_size`
use borrow.Author.Rules.{rules}
use Rattle.copies.proofs.Parts.{parts}
use Rattle.copies.proofs.copying.tree_size.Goals as goal

pub get-r-requires : goal.get-r-requires
get-r-requires c = search (parts, rules)

pub returns : goal.returns
returns c = search (parts, rules)
