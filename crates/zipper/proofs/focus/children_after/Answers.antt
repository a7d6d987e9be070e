-- These needs are laws of the loop, as the others.
use borrow.Author.Rules.{rules}
use Rattle.zipper.proofs.Rows.{counting}
use Rattle.zipper.proofs.focus.children_after.Goals as goal

pub root_kind-kind-requires : goal.root_kind-kind-requires
root_kind-kind-requires c = search (counting, rules)

pub loop-at-init : goal.loop-at-init
loop-at-init c = search (counting, rules)

pub returns : goal.returns
returns c = search (counting, rules)
