-- One law of RaisedCopies, RaisedLeaves or RaisedChildren for each need.
use Prim.Native.Nat.{ℕ}
use native.Mathlib.Omega.{arith}
use mathlib.Core.Path.{refl, sym, ◌∙◌}
use borrow.Author.Rules.{rules}
use Rattle.kinds.specs.Named.{kind_meant}
use Rattle.records.specs.Meant.{record_meant}
use Rattle.copies.proofs.RaisedIndices.{product_low}
use Rattle.copies.proofs.RaisedLeaves.{leaf_does}
use Rattle.copies.proofs.RaisedCopies.{raise_starts, raise_ends, turn_in, turn_from_fits, turn_to_fits, flat_does, TreeRead, read_known, read_room, read_index_fits, read_next_fits, read_moves, read_root_can, read_less, read_copied}
use Rattle.copies.proofs.RaisedChildren.{RootCopied, CodeCopied, next_from_fits, next_to_fits, flat_opened, function_tree, function_can, function_falls, function_fits, function_copied, code_tree, code_can, code_falls, code_fits, success_tree, success_can, success_falls, success_from_fits, success_to_fits, success_fits, success_copied}
use Rattle.copies.proofs.raising.+copy_raised.Goals as goal
use Rattle.copies.proofs.raising.+copy_raised.Goals.{After-get-r, After-known-kind, After-copy_raised-then-binders_second-ne0}

-- What is known where the root of a tree is read, where it is copied, and where the code of a match is.
read : (t : ℕ) (c : After-get-r t) → TreeRead c.args.w.now c.loop-done.w c.args.src c.args.dst c.args.n c.args.d c.tree_size-all.result c.loop-done.done (record_meant c.get-r.result)
read t c =
    record {
      short = search rules;
      whole = c.tree_size-all.ensures;
      row = c.loop-done.invariant;
      going = c.loop-done-test.true;
      read =
          c.get-r.ensures;
    }

root : (t : ℕ) (c : After-known-kind t)
    → RootCopied t c.args.w.now c.loop-done.w c.raise_root.new.w c.args.src c.args.dst c.args.n c.args.d c.tree_size-all.result c.loop-done.done
    (record_meant c.get-r.result) (kind_meant c.known-kind.result)
root t c = record {
  measure = c.decreases;
  tree = record { short = search rules; whole = c.tree_size-all.ensures; row = c.loop-done.invariant; going = c.loop-done-test.true; read = c.get-r.ensures };
  free = omega arith;
  root = c.raise_root.ensures;
  same = c.raise_root.auto.w ∙ c.loop-done.auto.w;
  known = c.known-kind.ensures;
}

code : (t : ℕ) (c : After-copy_raised-then-binders_second-ne0 t)
    → CodeCopied t c.args.w.now c.loop-done.w c.raise_root.new.w c.copy_raised-then-binders_second-ne0.new.w c.args.src c.args.dst c.args.n c.args.d
    c.tree_size-all.result c.loop-done.done (record_meant c.get-r.result) (kind_meant c.known-kind.result) c.tree_size-code.result
code t c = record {
  match = record {
    measure = c.decreases;
    tree = record { short = search rules; whole = c.tree_size-all.ensures; row = c.loop-done.invariant; going = c.loop-done-test.true; read = c.get-r.ensures };
    free = omega arith;
    root = c.raise_root.ensures;
    same = c.raise_root.auto.w ∙ c.loop-done.auto.w;
    known = c.known-kind.ensures;
  };
  binds = λ e. c.if-binders_second-ne0.true (c.binders_second.ensures ∙ e);
  size = c.tree_size-code.ensures;
  copy = c.copy_raised-then-binders_second-ne0.ensures;
  same = c.copy_raised-then-binders_second-ne0.auto.w ∙ c.raise_root.auto.w ∙ c.loop-done.auto.w;
}

pub loop-done-init : goal.loop-done-init
loop-done-init t c = raise_starts _ _ _ _ _ c.requires

pub overflow_add-at : goal.overflow_add-at
overflow_add-at t c = search (turn_from_fits, rules)

pub overflow_add-to : goal.overflow_add-to
overflow_add-to t c = search (turn_to_fits, rules)

pub get-r-requires : goal.get-r-requires
get-r-requires t c = search (turn_in, rules)

pub overflow_add-a : goal.overflow_add-a
overflow_add-a t c = read_index_fits (read t (goal.at.overflow_add-a t c).After-get-r) c.if-size-eq1.true (omega arith)

pub overflow_add-next : goal.overflow_add-next
overflow_add-next t c = read_next_fits (read t (goal.at.overflow_add-next t c).After-get-r) _ (search product_low)

pub put-requires : goal.put-requires
put-requires t c = read_room (read t (goal.at.put-requires t c).After-get-r)

pub loop-done-preserved-then-size-eq1 : goal.loop-done-preserved-then-size-eq1
loop-done-preserved-then-size-eq1 t c =
    read_copied (read t (goal.at.loop-done-preserved-then-size-eq1 t c).After-get-r) _ (leaf_does _ _ _ _ _ _ c.get-r.ensures c.if-size-eq1.true _
    c.put.ensures.things) _ (omega arith)

pub copy_flat-requires : goal.copy_flat-requires
copy_flat-requires t c = read_moves (read t (goal.at.copy_flat-requires t c).After-get-r)

pub loop-done-smaller-then-r-d : goal.loop-done-smaller-then-r-d
loop-done-smaller-then-r-d t c = read_less (read t (goal.at.loop-done-smaller-then-r-d t c).After-get-r)

pub loop-done-preserved-then-r-d : goal.loop-done-preserved-then-r-d
loop-done-preserved-then-r-d t c =
    read_copied (read t (goal.at.loop-done-preserved-then-r-d t c).After-get-r) _ (flat_does _ _ _ _ _ _ c.get-r.ensures _ (omega arith) _ refl
    c.copy_flat.ensures) _ refl

pub raise_root-requires : goal.raise_root-requires
raise_root-requires t c = read_root_can (read t (goal.at.raise_root-requires t c).After-get-r) (omega arith)

pub known-kind-requires : goal.known-kind-requires
known-kind-requires t c = read_known (read t (goal.at.known-kind-requires t c).After-get-r)

pub overflow_add-src : goal.overflow_add-src
overflow_add-src t c = next_from_fits (root t (goal.at.overflow_add-src t c).After-known-kind)

pub tree_size-body-requires : goal.tree_size-body-requires
tree_size-body-requires t c =
    function_tree (root t (goal.at.tree_size-body-requires t c).After-known-kind) (sym c.binders_first.ensures ∙ c.if-binders_first-eq1.true)

pub overflow_add-src-then-binders_first-eq1 : goal.overflow_add-src-then-binders_first-eq1
overflow_add-src-then-binders_first-eq1 t c = next_from_fits (root t (goal.at.overflow_add-src-then-binders_first-eq1 t c).After-known-kind)

pub overflow_add-dst : goal.overflow_add-dst
overflow_add-dst t c = next_to_fits (root t (goal.at.overflow_add-dst t c).After-known-kind)

pub copy_raised-requires : goal.copy_raised-requires
copy_raised-requires t c = (
  function_falls (root t (goal.at.copy_raised-requires t c).After-known-kind) (sym c.binders_first.ensures ∙ c.if-binders_first-eq1.true),
  function_can (root t (goal.at.copy_raised-requires t c).After-known-kind) (sym c.binders_first.ensures ∙ c.if-binders_first-eq1.true),
)

pub overflow_add-done-then-binders_first-eq1 : goal.overflow_add-done-then-binders_first-eq1
overflow_add-done-then-binders_first-eq1 t c =
    function_fits (root t (goal.at.overflow_add-done-then-binders_first-eq1 t c).After-known-kind) (sym c.binders_first.ensures ∙
    c.if-binders_first-eq1.true) _ c.tree_size-body.ensures

pub loop-done-preserved-then-binders_first-eq1 : goal.loop-done-preserved-then-binders_first-eq1
loop-done-preserved-then-binders_first-eq1 t c =
    function_copied (root t (goal.at.loop-done-preserved-then-binders_first-eq1 t c).After-known-kind) (sym c.binders_first.ensures ∙
    c.if-binders_first-eq1.true) _ c.tree_size-body.ensures _ c.copy_raised.ensures

pub overflow_add-src-then-binders_second-ne0 : goal.overflow_add-src-then-binders_second-ne0
overflow_add-src-then-binders_second-ne0 t c = next_from_fits (root t (goal.at.overflow_add-src-then-binders_second-ne0 t c).After-known-kind)

pub tree_size-code-requires : goal.tree_size-code-requires
tree_size-code-requires t c =
    code_tree (root t (goal.at.tree_size-code-requires t c).After-known-kind) (λ e. c.if-binders_second-ne0.true (c.binders_second.ensures ∙ e))

pub overflow_add-src-then-binders_second-ne0-2 : goal.overflow_add-src-then-binders_second-ne0-2
overflow_add-src-then-binders_second-ne0-2 t c = next_from_fits (root t (goal.at.overflow_add-src-then-binders_second-ne0-2 t c).After-known-kind)

pub overflow_add-dst-then-binders_second-ne0 : goal.overflow_add-dst-then-binders_second-ne0
overflow_add-dst-then-binders_second-ne0 t c = next_to_fits (root t (goal.at.overflow_add-dst-then-binders_second-ne0 t c).After-known-kind)

pub copy_raised-requires-then-binders_second-ne0 : goal.copy_raised-requires-then-binders_second-ne0
copy_raised-requires-then-binders_second-ne0 t c = (
  code_falls (root t (goal.at.copy_raised-requires-then-binders_second-ne0 t c).After-known-kind) (λ e. c.if-binders_second-ne0.true
      (c.binders_second.ensures ∙ e)),
  code_can (root t (goal.at.copy_raised-requires-then-binders_second-ne0 t c).After-known-kind) (λ e.
      c.if-binders_second-ne0.true (c.binders_second.ensures ∙ e)),
)

pub overflow_add-done-then-binders_second-ne0 : goal.overflow_add-done-then-binders_second-ne0
overflow_add-done-then-binders_second-ne0 t c =
    code_fits (code t (goal.at.overflow_add-done-then-binders_second-ne0 t c).After-copy_raised-then-binders_second-ne0)

pub overflow_add-src-then-binders_second-ne0-3 : goal.overflow_add-src-then-binders_second-ne0-3
overflow_add-src-then-binders_second-ne0-3 t c =
    success_from_fits (code t (goal.at.overflow_add-src-then-binders_second-ne0-3 t c).After-copy_raised-then-binders_second-ne0)

pub tree_size-success-requires : goal.tree_size-success-requires
tree_size-success-requires t c = success_tree (code t (goal.at.tree_size-success-requires t c).After-copy_raised-then-binders_second-ne0)

pub overflow_add-src-then-binders_second-ne0-4 : goal.overflow_add-src-then-binders_second-ne0-4
overflow_add-src-then-binders_second-ne0-4 t c =
    success_from_fits (code t (goal.at.overflow_add-src-then-binders_second-ne0-4 t c).After-copy_raised-then-binders_second-ne0)

pub overflow_add-dst-then-binders_second-ne0-2 : goal.overflow_add-dst-then-binders_second-ne0-2
overflow_add-dst-then-binders_second-ne0-2 t c =
    success_to_fits (code t (goal.at.overflow_add-dst-then-binders_second-ne0-2 t c).After-copy_raised-then-binders_second-ne0)

pub copy_raised-requires-then-binders_second-ne0-2 : goal.copy_raised-requires-then-binders_second-ne0-2
copy_raised-requires-then-binders_second-ne0-2 t c = (
  success_falls (code t (goal.at.copy_raised-requires-then-binders_second-ne0-2 t c).After-copy_raised-then-binders_second-ne0) _
      c.binders_second-then-binders_second-ne0.ensures,
  success_can (code t (goal.at.copy_raised-requires-then-binders_second-ne0-2 t
      c).After-copy_raised-then-binders_second-ne0) _ c.binders_second-then-binders_second-ne0.ensures,
)

pub overflow_add-done-then-binders_second-ne0-2 : goal.overflow_add-done-then-binders_second-ne0-2
overflow_add-done-then-binders_second-ne0-2 t c =
    success_fits (code t (goal.at.overflow_add-done-then-binders_second-ne0-2 t c).After-copy_raised-then-binders_second-ne0) _
    c.binders_second-then-binders_second-ne0.ensures _ c.tree_size-success.ensures

pub loop-done-preserved-then-binders_second-ne0 : goal.loop-done-preserved-then-binders_second-ne0
loop-done-preserved-then-binders_second-ne0 t c =
    success_copied (code t (goal.at.loop-done-preserved-then-binders_second-ne0 t c).After-copy_raised-then-binders_second-ne0) _
    c.binders_second-then-binders_second-ne0.ensures _ c.tree_size-success.ensures _ c.copy_raised-then-binders_second-ne0-2.ensures

pub loop-done-preserved : goal.loop-done-preserved
loop-done-preserved t c =
    flat_opened (root t (goal.at.loop-done-preserved t c).After-known-kind) (λ e. c.if-binders_first-eq1.false (c.binders_first.ensures ∙ e)) (sym
    c.binders_second.ensures ∙ c.if-binders_second-ne0.false)

pub returns : goal.returns
returns t c = search (raise_ends, rules)
