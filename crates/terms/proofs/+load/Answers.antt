-- Each goal is the law of its place.
use Rattle.std.proofs.Common.{rules}
use Rattle.terms.proofs.Loading.{load_reads, loading}
use Rattle.terms.proofs.+load.Goals as goal

pub put_root-child-requires : goal.put_root-child-requires
put_root-child-requires t c = search (loading, rules)

pub overflow_add-at : goal.overflow_add-at
overflow_add-at t c = search (loading, rules)

pub loop-child-init : goal.loop-child-init
loop-child-init t c = search (loading, rules)

pub load-at-requires : goal.load-at-requires
load-at-requires t c = search (loading, rules)

pub sibling-child-requires : goal.sibling-child-requires
sibling-child-requires t c = load_reads _ _ _ _ _ _ _ _ c.loop-child.invariant c.loop-child-test.true

pub loop-child-smaller : goal.loop-child-smaller
loop-child-smaller t c = search (loading, rules)

pub loop-child-preserved : goal.loop-child-preserved
loop-child-preserved t c = search (loading, rules)

pub mark_root-requires : goal.mark_root-requires
mark_root-requires t c = search (loading, rules)

pub returns : goal.returns
returns t c = search (loading, rules)
