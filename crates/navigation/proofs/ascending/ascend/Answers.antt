-- Each need is one of the laws of the loop.
use borrow.Author.Rules.{rules}
use Rattle.navigation.proofs.Climbing.{climbing}
use Rattle.navigation.proofs.ascending.ascend.Goals as goal

pub loop-at-init : goal.loop-at-init
loop-at-init c = search (climbing, rules)

pub returns-then-at-eq0 : goal.returns-then-at-eq0
returns-then-at-eq0 c = search (climbing, rules)

pub root_kind-kind-requires : goal.root_kind-kind-requires
root_kind-kind-requires c = search (climbing, rules)

pub steps_next-requires : goal.steps_next-requires
steps_next-requires c = search (climbing, rules)

pub returns-then-steps_next : goal.returns-then-steps_next
returns-then-steps_next c = search (climbing, rules)

pub returns-then-is_match : goal.returns-then-is_match
returns-then-is_match c = search (climbing, rules)

pub close-at-requires : goal.close-at-requires
close-at-requires c = search (climbing, rules)

pub contracts-requires : goal.contracts-requires
contracts-requires c = search (climbing, rules)

pub returns-then-contracts : goal.returns-then-contracts
returns-then-contracts c = search (climbing, rules)

pub loop-at-smaller : goal.loop-at-smaller
loop-at-smaller c = search (climbing, rules)

pub loop-at-preserved : goal.loop-at-preserved
loop-at-preserved c = search (climbing, rules)
