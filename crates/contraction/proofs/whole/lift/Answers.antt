-- Each need is one law of Rewriting.
use borrow.Author.Rules.{rules}
use Rattle.contraction.proofs.Rewriting.{rewriting}
use Rattle.contraction.proofs.whole.lift.Goals as goal

pub get-r-requires : goal.get-r-requires
get-r-requires c = search (rewriting, rules)

pub overflow_add-result : goal.overflow_add-result
overflow_add-result c = search (rewriting, rules)

pub returns : goal.returns
returns c = search (rewriting, rules)
