-- The innermost frame is closed: the children after its hole are brought to the end of the focus, and its record gets the measures of its tree, which
-- is the focus then. Any frame can be closed.
use Prim.Native.Nat.{ℕ, ◌+◌, ◌≤◌}
use native.Mathlib.Omega.{arith}
use mathlib.Core.List.{List, [], ◌∷◌}
use mathlib.Core.Logic.{inl, inr}
use mathlib.Core.Path.{◌≡◌, refl, ap, ◌∙◌}
use lib.ListN.{length, set, length-set}
use Rattle.rules.specs.Terms.{Term}
use Rattle.rules.specs.Format.{Record}
use Rattle.terms.specs.Preorder.{puts, part, head, preorder, There}
use Rattle.terms.specs.Children.{kids, sizes, preorders}
use Rattle.terms.proofs.Puts.{length_puts}
use Rattle.contexts.specs.Contexts.{Frame, fill, children_before, children_after, Context}
use Rattle.contexts.specs.Sides.{right_size, top_place}
use Rattle.contexts.proofs.Sides.{size_filled, preorders_filled}
use Rattle.zipper.specs.Layout.{left_records, right_records, Around, FocusBefore}
use Rattle.terms.proofs.There.{there_both, there_put, there_stays, there_set, there_set_stays}
use Rattle.terms.proofs.Trees.{length_preorder, length_preorders, preorder_kids}
use Rattle.zipper.proofs.Sides.{length_left}
use Rattle.zipper.proofs.Places.{at_top, at_start, outer, frame_read, siblings, next_ones, later_ones}

module _ (rs : List Record) (F : Frame) (C : Context) (t : Term) (s l r top : ℕ) (h : FocusBefore rs (F ∷ C) t s l r top) where
  abbrev a : Around rs (F ∷ C) s r top
  a = h.around

  abbrev n : ℕ
  n = sizes (children_after F)

  abbrev brought : List Record
  brought = puts rs l (part rs r n)

  abbrev closed : List Record
  closed = set brought top (head (fill F t))

  part_is : part rs r n ≡ preorders (children_after F)
  part_is = rw (length_preorders (children_after F)) at (next_ones rs F C s r top a).is

  part_long : length (part rs r n) ≡ n
  part_long = ap length part_is ∙ length_preorders (children_after F)

  pub stays_before : (i : ℕ) (xs : List Record) → i + length xs ≤ l → There rs i xs → There brought i xs
  stays_before i xs b = there_stays rs l (part rs r n) i xs (inl b)

  came : There brought l (preorders (children_after F))
  came = rw part_is (there_put rs l (preorders (children_after F)) (omega (arith, (next_ones rs F C s r top a).within, h.gap)))

  stays_after : There brought (r + n) (right_records C)
  stays_after = there_stays rs l (part rs r n) (r + n) (right_records C) (inr (omega (arith, part_long, h.gap))) (later_ones rs F C s r top a)

  pub brought_long : length brought ≡ length rs
  brought_long = length_puts rs l (part rs r n)

  -- The children of the frame's tree then stand behind its record.
  pub kids_brought : There brought (top + 1) (preorders (kids (fill F t)))
  kids_brought =
      let i = at_start rs F C s r top a in
      let b = length_preorders (children_before F) in
      let m = length_preorder t in
      let e : top + 1 + length (preorders (children_before F)) ≡ s = omega arith in
      let f : s + length (preorder t) ≡ l = omega (arith, h.end) in
      let p = stays_before (top + 1) (preorders (children_before F)) (omega (arith, h.end)) (siblings rs F C s r top a) in
      let q = stays_before s (preorder t) (omega (arith, h.end)) h.focus in
      rw (preorders_filled F t) (there_both brought (top + 1) (preorders (children_before F)) _ p (rw e (there_both brought s (preorder t) _ q (rw f came))))

  pub frame_closed : FocusBefore closed C (fill F t) top (l + n) (r + n) (top_place C)
  unfolding right_size
  frame_closed =
      let x = head (fill F t) in
      let i = at_start rs F C s r top a in
      let j = at_top rs F C s r top a in
      let o = there_set brought top x (omega (arith, (frame_read rs F C s r top a).0, brought_long)) in
      record {
        around = record {
          left = there_set_stays brought top x 0 (left_records C) (inl (omega (arith, length_left C)))
              (stays_before 0 (left_records C) (omega (arith, length_left C, h.end)) (outer rs F C s r top a));
          right = there_set_stays brought top x (r + n) (right_records C) (inr (omega (arith, h.end, h.gap))) stays_after;
          start = j;
          whole = omega (arith, a.whole);
          room = omega (arith, a.room, brought_long, length-set brought top x);
          frame = refl;
        };
        focus = rw (preorder_kids (fill F t)) (there_both closed top (x ∷ []) _ o (there_set_stays brought top x (top + 1) _ (inr (omega arith)) kids_brought));
        end = omega (arith, size_filled F t, h.end);
        gap = omega (arith, h.gap);
      }
