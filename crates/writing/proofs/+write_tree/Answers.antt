-- What the writing of a tree shows, from the laws of the loop over the children.
use Rattle.std.proofs.Common.{arith}
use borrow.Author.Rules.{rules}
use Rattle.writing.proofs.Tree.{can_put, children_left, place_fits, child_tree, child_can, child_down, child_fits, child_numbered, child_written, child_falls, all_written}
use Rattle.writing.proofs.+write_tree.Goals as goal

pub put_record-root-requires : goal.put_record-root-requires
put_record-root-requires t c = can_put _ _ _ _ c.requires

pub overflow_add-at : goal.overflow_add-at
overflow_add-at t c = search (place_fits, rules)

pub loop-child-init : goal.loop-child-init
loop-child-init t c = children_left _ _ _ _ _ _ _ _ c.put_record-root.ensures _ (omega arith) c.requires

pub skip-after-requires : goal.skip-after-requires
skip-after-requires t c = child_tree _ _ _ _ _ _ _ _ _ c.loop-child.invariant (omega arith)

pub overflow_sub-after : goal.overflow_sub-after
overflow_sub-after t c = child_down _ _ _ _ _ _ _ _ _ c.loop-child.invariant (omega arith) _ c.skip-after.ensures

pub overflow_cast-after : goal.overflow_cast-after
overflow_cast-after t c = child_fits _ _ _ _ _ _ _ _ _ c.loop-child.invariant (omega arith) _ c.skip-after.ensures

pub link-sibling-requires : goal.link-sibling-requires
link-sibling-requires t c = child_numbered _ _ _ _ _ _ _ _ _ c.loop-child.invariant (omega arith) _ c.skip-after.ensures

pub write_tree-done-requires : goal.write_tree-done-requires
write_tree-done-requires t c =
    (child_falls _ _ _ _ c.requires _ c.decreases _ _ _ _ _ _ _ c.loop-child.invariant, child_can _ _ _ _ _ _ _ _ _ c.loop-child.invariant (omega arith))

pub loop-child-preserved : goal.loop-child-preserved
loop-child-preserved t c =
    child_written _ _ _ _ _ _ _ _ _ c.loop-child.invariant (omega arith) _ c.skip-after.ensures _ _ _ (omega arith) (omega arith) c.link-sibling.ensures _ _ c.write_tree-done.ensures

pub returns : goal.returns
returns t c = all_written _ _ _ _ _ _ _ _ c.put_record-root.ensures _ _ _ _ c.loop-child.invariant (omega arith)
