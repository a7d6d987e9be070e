-- Moves of the focus that leave the frames' records as they are: the hole moves on to the next child, and the focus is brought over the gap.
use Prim.Native.Nat.{ℕ, ◌+◌}
use native.Mathlib.Omega.{arith}
use mathlib.Core.List.{List, [], ◌∷◌, ◌++◌, append_assoc, append-nil}
use mathlib.Core.Logic.{inl, inr}
use mathlib.Core.Path.{◌≡◌, refl, ap, ap₂, ◌∙◌}
use lib.ListN.{length}
use Rattle.rules.specs.Terms.{Term, size}
use Rattle.rules.specs.Format.{Record}
use Rattle.rules.specs.Links.{linked}
use Rattle.terms.specs.Preorder.{puts, part, preorder, There}
use Rattle.terms.specs.Children.{sizes, preorders}
use Rattle.terms.proofs.Puts.{length_puts}
use Rattle.terms.proofs.Children.{sizes_append}
use Rattle.contexts.specs.Contexts.{Frame, children_before, Context, left_size}
use Rattle.contexts.specs.Sides.{right_size, top_place}
use Rattle.contexts.specs.Moving.{MovedOn}
use Rattle.zipper.specs.Layout.{chained, left_records, right_records, FocusBefore, FocusAfter}
use Rattle.terms.proofs.There.{there_both, there_first, there_rest, there_put, there_stays}
use Rattle.terms.proofs.Trees.{length_preorder, preorders_append}
use Rattle.zipper.proofs.Sides.{length_left}

-- The hole moves on to the next child, which is the first tree after the gap: no record is written.
module _ (m : ℕ) (F : Frame) (t : Term) (on : MovedOn m F t) (rs : List Record) (C : Context) (s l r top : ℕ) (h : FocusBefore rs (F ∷ C) t s l r top) where
  abbrev G : Frame
  G = on.frame

  abbrev u : Term
  u = on.child

  left_grown : left_records (F ∷ C) ++ preorder t ≡ left_records (G ∷ C)
  unfolding left_records preorders
  left_grown =
      let e : preorders (children_before G) ≡ preorders (children_before F) ++ (preorder t ++ []) = ap preorders on.before ∙ preorders_append (children_before F) (t ∷ []) in
      let k : chained F (top_place C) ≡ chained G (top_place C) = ap₂ (λ x y. linked x y (top_place C) 0) on.kind on.fields in
      rw (e, k) (simp (append_assoc, append-nil))

  right_split : There rs r (preorder u ++ right_records (G ∷ C))
  unfolding right_records preorders
  right_split = rw (on.after, append_assoc) at h.around.right

  pub hole_moved : FocusAfter rs (G ∷ C) u l r (r + size u) top
  unfolding left_size right_size top_place sizes
  hole_moved =
      let e : 0 + length (left_records (F ∷ C)) ≡ s = omega (arith, length_left (F ∷ C), h.around.start) in
      record {
        around = record {
          left = rw left_grown at (there_both rs 0 (left_records (F ∷ C)) (preorder t) h.around.left (rw e h.focus));
          right = rw (length_preorder u) at (there_rest rs r (preorder u) (right_records (G ∷ C)) right_split);
          start = omega (arith, h.end, h.around.start, ap sizes on.before, sizes_append (children_before F) (t ∷ []));
          whole = omega (arith, h.around.whole, ap sizes on.after);
          room = h.around.room;
          frame = h.around.frame;
        };
        focus = there_first rs r (preorder u) (right_records (G ∷ C)) right_split;
        end = refl;
        gap = h.gap;
      }

-- The focus is brought over the gap.
pub brought_left : (rs : List Record) (C : Context) (t : Term) (l r e top : ℕ) → FocusAfter rs C t l r e top → FocusBefore (puts rs l (part rs r (size t))) C t l (l + size t) e top
brought_left rs C t l r e top h =
    let xs = part rs r (size t) in
    let p : xs ≡ preorder t = rw (length_preorder t) at h.focus.is in
    let n : length xs ≡ size t = ap length p ∙ length_preorder t in
    record {
      around = record {
        left = there_stays rs l xs 0 (left_records C) (inl (omega (arith, length_left C, h.around.start))) h.around.left;
        right = there_stays rs l xs e (right_records C) (inr (omega (arith, h.end, h.gap))) h.around.right;
        start = h.around.start;
        whole = h.around.whole;
        room = omega (arith, h.around.room, length_puts rs l xs);
        frame = h.around.frame;
      };
      focus = rw p (there_put rs l (preorder t) (omega (arith, h.focus.within, h.gap)));
      end = refl;
      gap = omega (arith, h.end, h.gap);
    }
