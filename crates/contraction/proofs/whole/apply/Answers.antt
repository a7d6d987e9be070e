-- Each need is one law of Rewriting.
use borrow.Author.Rules.{rules}
use Rattle.contraction.proofs.Rewriting.{rewriting}
use Rattle.contraction.proofs.whole.apply.Goals as goal

pub overflow_add-s : goal.overflow_add-s
overflow_add-s c = search (rewriting, rules)

pub skip-argument-requires : goal.skip-argument-requires
skip-argument-requires c = search (rewriting, rules)

pub overflow_add-s-2 : goal.overflow_add-s-2
overflow_add-s-2 c = search (rewriting, rules)

pub body_with_tree-requires : goal.body_with_tree-requires
body_with_tree-requires c = search (rewriting, rules)

pub returns : goal.returns
returns c = search (rewriting, rules)
