-- Each need is one law of ArgumentSizes.
use borrow.Author.Rules.{rules}
use Rattle.sizes.proofs.ArgumentSizes.{measuring}
use Rattle.sizes.proofs.argument_size.Goals as goal

pub tree_size-requires : goal.tree_size-requires
tree_size-requires c = search (measuring, rules)

pub tree_size-requires-in-Quote : goal.tree_size-requires-in-Quote
tree_size-requires-in-Quote c = search (measuring, rules)

pub overflow_add-result : goal.overflow_add-result
overflow_add-result c = search (measuring, rules)

pub size_after-requires : goal.size_after-requires
size_after-requires c = search (measuring, rules)

pub overflow_add-result-in-Opened : goal.overflow_add-result-in-Opened
overflow_add-result-in-Opened c = search (measuring, rules)

pub tree_size-requires-in-Opened-2 : goal.tree_size-requires-in-Opened-2
tree_size-requires-in-Opened-2 c = search (measuring, rules)

pub overflow_mul-result : goal.overflow_mul-result
overflow_mul-result c = search (measuring, rules)

pub overflow_add-result-in-Opened-2 : goal.overflow_add-result-in-Opened-2
overflow_add-result-in-Opened-2 c = search (measuring, rules)

pub returns-in-Tree : goal.returns-in-Tree
returns-in-Tree c = search (measuring, rules)

pub returns-in-Quote : goal.returns-in-Quote
returns-in-Quote c = search (measuring, rules)

pub returns-in-Opened : goal.returns-in-Opened
returns-in-Opened c = search (measuring, rules)

pub returns-in-Opened-2 : goal.returns-in-Opened-2
returns-in-Opened-2 c = search (measuring, rules)
