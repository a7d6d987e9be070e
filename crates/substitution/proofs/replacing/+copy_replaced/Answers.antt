-- One law of ReplacedCopies for each need.
use native.Mathlib.Omega.{arith}
use borrow.Author.Rules.{rules}
use Rattle.copies.proofs.Copies.{copy_to}
use Rattle.substitution.proofs.ReplacedCopies.{replaced_known, use_can, use_replaces, children_start, root_replaces, replacing_laws}
use Rattle.substitution.proofs.replacing.+copy_replaced.Goals as goal

pub get-r-requires : goal.get-r-requires
get-r-requires t c = search (replacing_laws, rules)

pub copy_block-end-requires : goal.copy_block-end-requires
copy_block-end-requires t c = search (replacing_laws, rules)

pub returns-then-r-d : goal.returns-then-r-d
returns-then-r-d t c = search (replacing_laws, rules)

pub known-kind-requires : goal.known-kind-requires
known-kind-requires t c = replaced_known _ _ _ _ _ _ c.get-r.ensures c.requires

pub copy_argument-end-requires : goal.copy_argument-end-requires
copy_argument-end-requires t c =
    use_can _ _ _ _ _ _ c.get-r.ensures (omega arith) _ c.known-kind.ensures _ c.children-children.ensures _ (rw c.count.ensures at c.gives_way.ensures) c.if-gives_way.true
    _ (search rules) c.requires

pub returns-then-gives_way : goal.returns-then-gives_way
returns-then-gives_way t c =
    use_replaces _ _ _ _ _ _ c.get-r.ensures (omega arith) _ c.known-kind.ensures _ c.children-children.ensures _ (rw c.count.ensures at c.gives_way.ensures)
    c.if-gives_way.true _ (search rules) _ _ c.copy_argument-end.ensures

pub put_indexed-requires : goal.put_indexed-requires
put_indexed-requires t c = copy_to _ _ _ _ _ c.requires

pub overflow_add-at : goal.overflow_add-at
overflow_add-at t c = search (replacing_laws, rules)

pub loop-j-init : goal.loop-j-init
loop-j-init t c =
    children_start _ _ _ _ _ _ c.get-r.ensures (omega arith) _ c.known-kind.ensures _ c.children-children.ensures _ (rw c.count.ensures at c.gives_way.ensures)
    c.if-gives_way.false _ (rw c.count-2.ensures at c.lowered_field-a.ensures) _ c.put_indexed.ensures c.requires

pub skip-after-requires : goal.skip-after-requires
skip-after-requires t c = search (replacing_laws, rules)

pub copy_replaced-child-requires : goal.copy_replaced-child-requires
copy_replaced-child-requires t c = search (replacing_laws, rules)

pub overflow_add-replaced : goal.overflow_add-replaced
overflow_add-replaced t c = search (replacing_laws, rules)

pub loop-j-preserved : goal.loop-j-preserved
loop-j-preserved t c = search (replacing_laws, rules)

pub mark_root-end-requires : goal.mark_root-end-requires
mark_root-end-requires t c = search (replacing_laws, rules)

pub returns : goal.returns
returns t c =
    root_replaces _ _ _ _ _ _ c.get-r.ensures (omega arith) _ c.known-kind.ensures _ c.children-children.ensures _ (rw c.count.ensures at c.gives_way.ensures)
    c.if-gives_way.false _ (rw c.count-2.ensures at c.lowered_field-a.ensures) _ c.put_indexed.ensures _ _ _ _ _ c.loop-j.invariant (omega arith) _ _ c.mark_root-end.ensures
