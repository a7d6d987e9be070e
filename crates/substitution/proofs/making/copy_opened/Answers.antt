-- Each need is one law of MadeCopies.
use borrow.Author.Rules.{rules}
use Rattle.substitution.proofs.MadeCopies.{making}
use Rattle.substitution.proofs.making.copy_opened.Goals as goal

pub copy_wrapped-requires : goal.copy_wrapped-requires
copy_wrapped-requires c = search (making, rules)

pub put_over-requires : goal.put_over-requires
put_over-requires c = search (making, rules)

pub put_over-requires-2 : goal.put_over-requires-2
put_over-requires-2 c = search (making, rules)

pub returns : goal.returns
returns c = search (making, rules)
