-- One law of WrappedCopies for each need.
use native.Mathlib.Omega.{arith}
use borrow.Author.Rules.{rules}
use Rattle.copies.proofs.Copies.{copy_to}
use Rattle.copies.proofs.WrappedCopies.{use_room, use_does, wrap_leaf_can, wrap_leaf_does, wrap_known, wrap_field, wrap_starts, wrap_ends, wrap_falls, wrapping_laws}
use Rattle.copies.proofs.wrapping.+copy_wrapped.Goals as goal

pub get-r-requires : goal.get-r-requires
get-r-requires t c = search (wrapping_laws, rules)

pub put_use-requires : goal.put_use-requires
put_use-requires t c =
    use_room _ _ _ _ _ _ _ c.get-r.ensures _ c.known-kind.ensures _ c.children-children.ensures _ c.gives_way.ensures c.if-gives_way.true c.requires

pub returns-then-gives_way : goal.returns-then-gives_way
returns-then-gives_way t c =
    use_does _ _ _ _ _ _ _ c.get-r.ensures _ c.known-kind.ensures _ c.children-children.ensures _ c.gives_way.ensures c.if-gives_way.true _ _
    c.put_use.ensures

pub copy_raised-requires : goal.copy_raised-requires
copy_raised-requires t c =
    wrap_leaf_can _ _ _ _ _ _ _ c.get-r.ensures _ c.known-kind.ensures _ c.children-children.ensures _ c.gives_way.ensures c.if-gives_way.false
    c.if-children-eq0.true c.requires

pub returns-then-children-eq0 : goal.returns-then-children-eq0
returns-then-children-eq0 t c =
    wrap_leaf_does _ _ _ _ _ _ _ c.get-r.ensures _ c.known-kind.ensures _ c.children-children.ensures _ c.gives_way.ensures c.if-gives_way.false
    c.if-children-eq0.true _ c.copy_raised.ensures

pub copy_block-requires : goal.copy_block-requires
copy_block-requires t c = search (wrapping_laws, rules)

pub returns-then-bound-d : goal.returns-then-bound-d
returns-then-bound-d t c = search (wrapping_laws, rules)

pub overflow_add-at : goal.overflow_add-at
overflow_add-at t c = search (wrapping_laws, rules)

pub skip-after-requires : goal.skip-after-requires
skip-after-requires t c = search (wrapping_laws, rules)

pub mark_root-requires : goal.mark_root-requires
mark_root-requires t c = search (wrapping_laws, rules)

pub known-kind-requires : goal.known-kind-requires
known-kind-requires t c = wrap_known _ _ _ _ _ _ _ c.get-r.ensures c.requires

pub raised_field-a-requires : goal.raised_field-a-requires
raised_field-a-requires t c = wrap_field _ _ _ _ _ _ _ c.get-r.ensures c.requires _ c.known-kind.ensures

pub put_indexed-requires : goal.put_indexed-requires
put_indexed-requires t c = copy_to _ _ _ _ _ c.requires

pub loop-j-init : goal.loop-j-init
loop-j-init t c =
    wrap_starts _ _ _ _ _ _ _ _ c.get-r.ensures (omega arith) _ c.known-kind.ensures _ c.raised_field-a.ensures c.put_indexed.ensures _
    c.if-children-eq0.false c.children-children.ensures c.requires

pub copy_wrapped-to-requires : goal.copy_wrapped-to-requires
copy_wrapped-to-requires t c = (search wrap_falls, search (wrapping_laws, rules))

pub loop-j-preserved : goal.loop-j-preserved
loop-j-preserved t c = search (wrapping_laws, rules)

pub returns : goal.returns
returns t c =
    wrap_ends _ _ _ _ _ _ _ _ c.get-r.ensures (omega arith) _ c.known-kind.ensures _ c.raised_field-a.ensures c.put_indexed.ensures _
    c.if-children-eq0.false _ _ _ _ c.loop-j.invariant (omega arith) _ _ c.mark_root.ensures
