-- One law of SizesAfter for each need.
use native.Mathlib.Omega.{arith}
use borrow.Author.Rules.{rules}
use Rattle.sizes.proofs.SizesAfter.{count_known, counts_use, walk_starts, walk_ends, counting}
use Rattle.sizes.proofs.+size_after.Goals as goal

pub get-r-requires : goal.get-r-requires
get-r-requires t c = search (counting, rules)

pub returns-then-r-d : goal.returns-then-r-d
returns-then-r-d t c = search (counting, rules)

pub known-kind-requires : goal.known-kind-requires
known-kind-requires t c = count_known _ _ _ _ _ _ c.get-r.ensures c.requires

pub returns-then-gives_way : goal.returns-then-gives_way
returns-then-gives_way t c =
    counts_use _ _ _ _ _ _ _ c.get-r.ensures (omega arith) _ c.known-kind.ensures _ c.children-children.ensures _ c.gives_way.ensures
    c.if-gives_way.true _ c.chosen.ensures

pub overflow_add-at : goal.overflow_add-at
overflow_add-at t c = search (counting, rules)

pub loop-j-init : goal.loop-j-init
loop-j-init t c =
    walk_starts _ _ _ _ _ _ _ c.get-r.ensures (omega arith) _ c.known-kind.ensures _ c.children-children.ensures _ c.gives_way.ensures
    c.if-gives_way.false c.requires

pub skip-after-requires : goal.skip-after-requires
skip-after-requires t c = search (counting, rules)

pub size_after-n-requires : goal.size_after-n-requires
size_after-n-requires t c = search (counting, rules)

pub overflow_add-n : goal.overflow_add-n
overflow_add-n t c = search (counting, rules)

pub loop-j-preserved : goal.loop-j-preserved
loop-j-preserved t c = search (counting, rules)

pub returns : goal.returns
returns t c =
    walk_ends _ _ _ _ _ _ _ c.get-r.ensures (omega arith) _ c.known-kind.ensures _ c.children-children.ensures _ c.gives_way.ensures
    c.if-gives_way.false _ _ _ c.loop-j.invariant (omega arith)
