-- Each need of the loop is one of its laws.
use borrow.Author.Rules.{rules}
use Rattle.terms.proofs.Joined.{joining, index_fits, joining_starts}
use Rattle.terms.proofs.measuring.measured.Goals as goal

pub overflow_add-m : goal.overflow_add-m
overflow_add-m c = search (joining, rules)

pub own_bound-requires : goal.own_bound-requires
own_bound-requires c = index_fits _ _ _ c.get-r.ensures _ c.of-kind.ensures c.requires

pub loop-j-init : goal.loop-j-init
loop-j-init c = joining_starts _ _ _ c.get-r.ensures _ c.of-kind.ensures _ _ c.own_bound.ensures c.is_plain.ensures c.requires

pub with_child-m-requires : goal.with_child-m-requires
with_child-m-requires c = search (joining, rules)

pub loop-j-preserved : goal.loop-j-preserved
loop-j-preserved c = search (joining, rules)

pub returns : goal.returns
returns c = search (joining, rules)
