-- Each need is one of the laws of the loop.
use borrow.Author.Rules.{rules}
use Rattle.redexes.proofs.Scanning.{scanning, scan_enters}
use Rattle.redexes.proofs.first_splice.Goals as goal

pub loop-pending-init : goal.loop-pending-init
loop-pending-init c = search (scanning, rules)

pub root_kind-kind-requires : goal.root_kind-kind-requires
root_kind-kind-requires c = search (scanning, rules)

pub returns-then-contracts : goal.returns-then-contracts
returns-then-contracts c = search (scanning, rules)

pub splice_below-requires : goal.splice_below-requires
splice_below-requires c = search (scanning, rules)

pub overflow_add-pending : goal.overflow_add-pending
overflow_add-pending c = search (scanning, rules)

pub overflow_add-at : goal.overflow_add-at
overflow_add-at c = search (scanning, rules)

pub loop-pending-smaller-then-splice_below : goal.loop-pending-smaller-then-splice_below
loop-pending-smaller-then-splice_below c = search (scanning, rules)

pub loop-pending-preserved-then-splice_below : goal.loop-pending-preserved-then-splice_below
loop-pending-preserved-then-splice_below c = scan_enters _ _ _ _ c.loop-pending.invariant c.loop-pending-test.true _ c.root_kind-kind.ensures _ c.splice_below.ensures c.if-splice_below.true _ c.children.ensures

pub skip-at-requires : goal.skip-at-requires
skip-at-requires c = search (scanning, rules)

pub loop-pending-smaller : goal.loop-pending-smaller
loop-pending-smaller c = search (scanning, rules)

pub loop-pending-preserved : goal.loop-pending-preserved
loop-pending-preserved c = search (scanning, rules)

pub returns : goal.returns
returns c = search (scanning, rules)
