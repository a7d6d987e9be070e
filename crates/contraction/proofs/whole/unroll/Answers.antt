-- Each need is one law of Rewriting.
use borrow.Author.Rules.{rules}
use Rattle.contraction.proofs.Rewriting.{rewriting}
use Rattle.contraction.proofs.whole.unroll.Goals as goal

pub overflow_add-function : goal.overflow_add-function
overflow_add-function c = search (rewriting, rules)

pub overflow_add-function-2 : goal.overflow_add-function-2
overflow_add-function-2 c = search (rewriting, rules)

pub body_with_tree-requires : goal.body_with_tree-requires
body_with_tree-requires c = search (rewriting, rules)

pub returns : goal.returns
returns c = search (rewriting, rules)
