-- Each need is one law of MadeCopies.
use borrow.Author.Rules.{rules}
use Rattle.substitution.proofs.MadeCopies.{making}
use Rattle.substitution.proofs.making.copy_tree.Goals as goal

pub tree_size-size-requires : goal.tree_size-size-requires
tree_size-size-requires c = search (making, rules)

pub copy_block-requires : goal.copy_block-requires
copy_block-requires c = search (making, rules)

pub returns-then-n-eq0 : goal.returns-then-n-eq0
returns-then-n-eq0 c = search (making, rules)

pub copy_raised-requires : goal.copy_raised-requires
copy_raised-requires c = search (making, rules)

pub overflow_add-result : goal.overflow_add-result
overflow_add-result c = search (making, rules)

pub returns : goal.returns
returns c = search (making, rules)
