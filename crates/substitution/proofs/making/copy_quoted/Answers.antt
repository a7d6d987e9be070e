-- Each need is one law of MadeCopies.
use borrow.Author.Rules.{rules}
use Rattle.substitution.proofs.MadeCopies.{making}
use Rattle.substitution.proofs.making.copy_quoted.Goals as goal

pub copy_tree-requires : goal.copy_tree-requires
copy_tree-requires c = search (making, rules)

pub put_over-requires : goal.put_over-requires
put_over-requires c = search (making, rules)

pub returns : goal.returns
returns c = search (making, rules)
