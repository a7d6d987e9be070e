-- The root of a focus after the gap becomes a frame, with one of its children as the focus then: the root and the children before the new hole go
-- over the gap.
use Prim.Native.Nat.{ℕ, ◌+◌, ◌≤◌}
use native.Mathlib.Omega.{arith}
use mathlib.Core.List.{List, [], ◌∷◌, ◌++◌}
use mathlib.Core.Logic.{◌⊎◌, inl, inr, ⊎_elim}
use mathlib.Core.Path.{◌≡◌, refl, ap, ◌∙◌}
use lib.ListN.{length, set, length-set}
use Rattle.rules.specs.Terms.{Term, size}
use Rattle.rules.specs.Format.{Record}
use Rattle.terms.specs.Preorder.{puts, part, head, preorder, There}
use Rattle.terms.specs.Children.{sizes, preorders}
use Rattle.terms.proofs.Puts.{length_puts}
use Rattle.contexts.specs.Contexts.{Frame, fill, children_before, children_after, Context, left_size}
use Rattle.contexts.specs.Sides.{right_size, top_place}
use Rattle.contexts.proofs.Sides.{size_filled, preorder_filled}
use Rattle.zipper.specs.Layout.{chained, left_records, right_records, FocusAfter}
use Rattle.terms.proofs.There.{there_both, there_first, there_rest, there_put, there_stays, there_set, there_set_stays}
use Rattle.terms.proofs.Trees.{length_preorder, length_preorders}
use Rattle.zipper.proofs.Sides.{length_left}

-- The parts of a frame's tree that stands at i.
module _ (rs : List Record) (F : Frame) (t : Term) (i : ℕ) (h : There rs i (preorder (fill F t))) where
  inner : There rs (i + 1) (preorders (children_before F) ++ (preorder t ++ preorders (children_after F)))
  inner = there_rest rs i (head (fill F t) ∷ []) _ (rw (preorder_filled F t) at h)

  pub before_there : There rs (i + 1) (preorders (children_before F))
  before_there = there_first rs (i + 1) (preorders (children_before F)) _ inner

  from_hole : There rs (i + 1 + sizes (children_before F)) (preorder t ++ preorders (children_after F))
  from_hole = rw (length_preorders (children_before F)) at (there_rest rs (i + 1) (preorders (children_before F)) _ inner)

  hole_there : There rs (i + 1 + sizes (children_before F)) (preorder t)
  hole_there = there_first rs _ (preorder t) _ from_hole

  after_there : There rs (i + 1 + sizes (children_before F) + size t) (preorders (children_after F))
  after_there = rw (length_preorder t) at (there_rest rs _ (preorder t) _ from_hole)

module _ (rs : List Record) (F : Frame) (C : Context) (t : Term) (l r e top : ℕ) (h : FocusAfter rs C (fill F t) l r e top) where
  abbrev p : ℕ
  p = 1 + sizes (children_before F)

  abbrev taken : List Record
  taken = puts rs l (part rs r p)

  abbrev opened_after : List Record
  opened_after = set taken l (chained F top)

  begun : There rs r (head (fill F t) ∷ preorders (children_before F))
  begun = there_first rs r (head (fill F t) ∷ preorders (children_before F)) (preorder t ++ preorders (children_after F)) (rw (preorder_filled F t) at h.focus)

  begun_long : length (head (fill F t) ∷ preorders (children_before F)) ≡ p
  begun_long = omega (arith, length_preorders (children_before F))

  taken_is : part rs r p ≡ head (fill F t) ∷ preorders (children_before F)
  taken_is = rw begun_long at begun.is

  taken_long : length (part rs r p) ≡ p
  taken_long = ap length taken_is ∙ begun_long

  pub taken_there : There taken l (head (fill F t) ∷ preorders (children_before F))
  taken_there = rw taken_is (there_put rs l _ (omega (arith, begun.within, h.gap)))

  -- What stands after the gap stays, and what stands before it.
  stays : (i : ℕ) (xs : List Record) → (i + length xs ≤ l) ⊎ (l + p ≤ i) → There rs i xs → There opened_after i xs
  stays i xs b g = there_set_stays taken l (chained F top) i xs (⊎_elim (λ x. inl x) (λ x. inr (omega arith)) b)
      (there_stays rs l (part rs r p) i xs (⊎_elim (λ x. inl x) (λ x. inr (omega (arith, taken_long))) b) g)

  taken_left : There opened_after 0 (left_records (F ∷ C))
  unfolding left_records
  taken_left =
      let x = chained F top in
      let z : There opened_after 0 (left_records C) = stays 0 (left_records C) (inl (omega (arith, length_left C, h.around.start))) h.around.left in
      let o : There opened_after l (x ∷ []) = there_set taken l x (omega (arith, taken_there.within)) in
      let q : There opened_after (l + 1) (preorders (children_before F)) = there_set_stays taken l x (l + 1) _ (inr (omega arith)) (there_rest taken l (head (fill F t) ∷ []) _ taken_there) in
      let i : 0 + length (left_records C) ≡ l = omega (arith, length_left C, h.around.start) in
      rw (← h.around.frame) (there_both opened_after 0 (left_records C) _ z (rw i (there_both opened_after l (x ∷ []) _ o q)))

  at_hole : r + 1 + sizes (children_before F) ≡ r + p
  at_hole = omega arith

  taken_right : There opened_after (r + p + size t) (right_records (F ∷ C))
  unfolding right_records
  taken_right =
      let b = length_preorders (children_after F) in
      let i : There rs (r + p + size t) (preorders (children_after F)) = rw at_hole at (after_there rs F t r h.focus) in
      let k : r + p + size t + length (preorders (children_after F)) ≡ e = omega (arith, h.end, size_filled F t) in
      stays (r + p + size t) _ (inr (omega (arith, h.gap))) (there_both rs (r + p + size t) (preorders (children_after F)) (right_records C) i (rw k h.around.right))

  pub root_opened_right : FocusAfter opened_after (F ∷ C) t (l + p) (r + p) (r + p + size t) l
  unfolding left_size right_size top_place
  root_opened_right = record {
    around = record {
      left = taken_left;
      right = taken_right;
      start = omega (arith, h.around.start);
      whole = omega (arith, h.around.whole, h.end, size_filled F t);
      room = omega (arith, h.around.room, length-set taken l (chained F top), length_puts rs l (part rs r p));
      frame = h.around.start;
    };
    focus = stays (r + p) _ (inr (omega (arith, h.gap))) (rw at_hole at (hole_there rs F t r h.focus));
    end = refl;
    gap = omega (arith, h.gap);
  }
