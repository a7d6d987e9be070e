-- Where the parts of a term stand that is laid out around its focus: the innermost frame's record, the children beside its hole, and the rest.
use Prim.Native.Nat.{ℕ, ◌+◌, ◌≤◌, ◌<◌}
use native.Mathlib.Omega.{arith}
use mathlib.Core.List.{List, [], ◌∷◌}
use mathlib.Core.Path.{◌≡◌}
use lib.ListN.{length, get_or}
use Rattle.rules.specs.Terms.{Term, size}
use Rattle.rules.specs.Format.{Record, no_record, most_records}
use Rattle.terms.specs.Children.{sizes, preorders}
use Rattle.contexts.specs.Contexts.{Frame, children_before, children_after, Context, plug, left_size}
use Rattle.contexts.specs.Sides.{top_place}
use Rattle.contexts.proofs.Sides.{size_plugged}
use Rattle.terms.specs.Preorder.{There}
use Rattle.zipper.specs.Layout.{chained, left_records, right_records, Around, FocusBefore}
use Rattle.terms.proofs.There.{there_first, there_rest, there_head}
use Rattle.terms.proofs.Trees.{length_preorders}
use Rattle.zipper.proofs.Sides.{length_left}

-- "A term has at most 2,048 records": so it is where it is laid out.
pub laid_few : (rs : List Record) (C : Context) (t : Term) (s l r top : ℕ) → FocusBefore rs C t s l r top → size (plug C t) ≤ most_records
laid_few rs C t s l r top h = omega (arith, size_plugged C t, h.around.start, h.end, h.gap, h.around.whole)

module _ (rs : List Record) (F : Frame) (C : Context) (s r top : ℕ) (h : Around rs (F ∷ C) s r top) where
  abbrev before : List Record
  before = preorders (children_before F)

  abbrev after : List Record
  after = preorders (children_after F)

  pub at_top : top ≡ left_size C
  unfolding top_place
  at_top = h.frame

  pub at_start : s ≡ top + 1 + sizes (children_before F)
  unfolding left_size
  at_start = omega (arith, h.start, at_top)

  pub outer : There rs 0 (left_records C)
  unfolding left_records
  outer = there_first rs 0 (left_records C) (chained F (top_place C) ∷ before) h.left

  pub own : There rs top (chained F (top_place C) ∷ before)
  unfolding left_records
  own = let e : 0 + length (left_records C) ≡ top = omega (arith, length_left C, at_top) in
      rw e at (there_rest rs 0 (left_records C) (chained F (top_place C) ∷ before) h.left)

  pub frame_read : (top < length rs) × (get_or rs top no_record ≡ chained F (top_place C))
  frame_read = there_head rs top (chained F (top_place C)) before own

  pub siblings : There rs (top + 1) before
  siblings = there_rest rs top (chained F (top_place C) ∷ []) before own

  pub next_ones : There rs r after
  unfolding right_records
  next_ones = there_first rs r after (right_records C) h.right

  pub later_ones : There rs (r + sizes (children_after F)) (right_records C)
  unfolding right_records
  later_ones = rw (length_preorders (children_after F)) at (there_rest rs r after (right_records C) h.right)
