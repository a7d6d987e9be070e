-- Each need is one law of MadeCopies.
use borrow.Author.Rules.{rules}
use Rattle.substitution.proofs.MadeCopies.{making}
use Rattle.substitution.proofs.making.put_over.Goals as goal

pub mark_root-requires : goal.mark_root-requires
mark_root-requires c = search (making, rules)

pub returns : goal.returns
returns c = search (making, rules)
