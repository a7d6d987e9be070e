-- These needs are laws of the loop, as the others.
use borrow.Author.Rules.{rules}
use Rattle.zipper.proofs.Wholes.{closing_all}
use Rattle.zipper.proofs.focus.close_all.Goals as goal

pub close-at-requires : goal.close-at-requires
close-at-requires c = search (closing_all, rules)

pub loop-at-smaller : goal.loop-at-smaller
loop-at-smaller c = search (closing_all, rules)
