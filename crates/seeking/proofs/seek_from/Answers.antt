-- Each need is one of the laws of the loop.
use borrow.Author.Rules.{rules}
use Rattle.seeking.proofs.SearchLoop.{seeking, onward_over}
use Rattle.seeking.proofs.seek_from.Goals as goal

pub loop-b-init : goal.loop-b-init
loop-b-init c = search (seeking, rules)

pub search-requires : goal.search-requires
search-requires c = search (seeking, rules)

pub loop-b-smaller : goal.loop-b-smaller
loop-b-smaller c = search (seeking, rules)

pub loop-b-preserved : goal.loop-b-preserved
loop-b-preserved c = search (seeking, rules)

pub returns-in_default : goal.returns-in_default
returns-in_default c = onward_over _ _ _ _ c.loop-b.invariant _ _ c.search.ensures c.in_default.not-Next
