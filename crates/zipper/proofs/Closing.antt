-- `close`: the laws of closing a frame. `closing` for search.
use Prim.Native.Nat.{ℕ, ◌+◌, ◌-◌, ◌*◌, ◌≤◌, ◌<◌}
use native.Mathlib.Omega.{arith}
use mathlib.Core.List.{List, [], ◌∷◌}
use mathlib.Core.Logic.{inr}
use mathlib.Core.Path.{◌≡◌, refl, sym, ap, ◌∙◌}
use lib.ListN.{length, set}
use Rattle.rules.specs.Kinds.{kind_number}
use Rattle.rules.specs.Terms.{Term}
use Rattle.rules.specs.FreeBounds.{free_bound}
use Rattle.rules.specs.Types.{Table}
use Rattle.rules.specs.Typing.{Typed}
use Rattle.rules.specs.Format.{Record}
use Rattle.rules.proofs.FreeBounds.{typed_bound}
use Rattle.terms.specs.Preorder.{puts, part, head}
use Rattle.terms.specs.Moves.{CanMove, Moved}
use Rattle.terms.specs.Children.{sizes, preorders}
use Rattle.contexts.specs.Contexts.{Frame, fill, children_before, children_after, Context, plug}
use Rattle.contexts.specs.Sides.{right_size, top_place}
use Rattle.contexts.proofs.Contexts.{root_filled}
use Rattle.contexts.proofs.Inside.{typed_inside, bounded_inside}
use Rattle.contexts.proofs.Sides.{size_filled}
use Rattle.zipper.specs.declared.focus.Focus.{Focus}
use Rattle.terms.specs.Measuring.{RootedAt, HasRooted, MarksRoot}
use Rattle.zipper.specs.Layout.{chained}
use Rattle.zipper.specs.Focusing.{LinkIs, HasTrees, SkipsAll, LaidAt, HasFrame, CountsAfter, CanClose, Closes}
use Rattle.terms.proofs.There.{there_head}
use Rattle.terms.proofs.Trees.{length_preorders}
use Rattle.zipper.proofs.Places.{laid_few, at_start, own, frame_read, next_ones}
use Rattle.zipper.proofs.Closed.{stays_before, kids_brought, frame_closed}
use Rattle.zipper.proofs.Rows.{frame_in}

-- The children after the hole have room at the end of the focus, and don't come to lie upon themselves there.
few_after : (rs : List Record) (z : Focus) (F : Frame) (C : Context) (t : Term) → LaidAt rs z (F ∷ C) t → (z.r + sizes (children_after F) ≤ 4096) × (z.l + sizes (children_after F) ≤ z.r)
unfolding right_size
few_after rs z F C t h = omega (arith, h.gap, h.around.whole)

-- The measures of the frame's tree fit where the whole term is typed: "10: index not below its binders".
pub filled_low : (types : Table) (rs : List Record) (z : Focus) (F : Frame) (C : Context) (t : Term) → LaidAt rs z (F ∷ C) t → Typed types [] 0 (plug (F ∷ C) t)
    → 2 * free_bound (fill F t) + 1 < 65536
unfolding plug
filled_low types rs z F C t h y =
    omega (arith, typed_bound types _ _ (fill F t) (typed_inside types 0 [] C (fill F t) y), bounded_inside 0 [] C (fill F t), laid_few rs (F ∷ C) t z.s z.l z.r z.top h)

-- Once they are there, the frame's tree stands at its place but for its root's measures.
module _ (rs : List Record) (z : Focus) (F : Frame) (C : Context) (t : Term) (h : LaidAt rs z (F ∷ C) t) where
  abbrev brought : List Record
  brought = puts rs z.l (part rs z.r (sizes (children_after F)))

  rooted : 2 * free_bound (fill F t) + 1 < 65536 → RootedAt brought z.top (fill F t)
  rooted b =
      let i = at_start rs F C z.s z.r z.top h.around in
      let o = stays_before rs F C t z.s z.l z.r z.top h z.top (chained F (top_place C) ∷ preorders (children_before F))
      (omega (arith, length_preorders (children_before F), h.end)) (own rs F C z.s z.r z.top h.around) in
      let (p, q) = there_head brought z.top (chained F (top_place C)) (preorders (children_before F)) o in
      let (k, f) = root_filled F t in
      let (x, y) = few_after rs z F C t h in
      record {
        within = p;
        kind = ap (λ r. r.kind) q ∙ ap kind_number (sym k);
        fields = ap (λ r. r.fields) q ∙ sym f;
        children = kids_brought rs F C t z.s z.l z.r z.top h;
        few = omega (arith, size_filled F t, h.end);
        low = b;
      }

module _ (rs : List Record) (z : Focus) where
  pub close_frame : CanClose rs z → HasFrame rs z
  close_frame h = h.holds

  pub close_in : CanClose rs z → z.top < length rs
  close_in h = frame_in rs z h.holds

  module _ (n : ℕ) (ca : CountsAfter rs z n) where
    pub close_trees : CanClose rs z → HasTrees rs z.r n
    close_trees h = record {
      trees = children_after h.holds.frame;
      count = sym (ca.is h.holds.frame h.holds.context h.holds.focus h.holds.laid);
      there = next_ones rs h.holds.frame h.holds.context z.s z.r z.top h.holds.laid.around;
    }

    module _ (e : ℕ) (sk : SkipsAll rs z.r n e) where
      end_is : (F : Frame) (C : Context) (t : Term) → LaidAt rs z (F ∷ C) t → e ≡ z.r + sizes (children_after F)
      end_is F C t h = sk.is (children_after F) (sym (ca.is F C t h)) (next_ones rs F C z.s z.r z.top h.around)

      first_end : (h : CanClose rs z) → e ≡ z.r + sizes (children_after h.holds.frame)
      first_end h = end_is h.holds.frame h.holds.context h.holds.focus h.holds.laid

      pub close_down : CanClose rs z → z.r ≤ e
      close_down h = omega (arith, first_end h)

      pub close_can : CanClose rs z → CanMove rs z.r z.l (e - z.r)
      close_can h =
          let q = first_end h in
          let (a, b) = few_after rs z h.holds.frame h.holds.context h.holds.focus h.holds.laid in
          let c = h.holds.laid.around.room in
          record { from = omega arith; to = omega arith; apart = inr (omega arith) }

      module _ (rs₁ : List Record) (mv : Moved rs rs₁ z.r z.l (e - z.r)) where
        brought_is : (F : Frame) (C : Context) (t : Term) → LaidAt rs z (F ∷ C) t → rs₁ ≡ puts rs z.l (part rs z.r (sizes (children_after F)))
        brought_is F C t h = let q : e - z.r ≡ sizes (children_after F) = omega (arith, end_is F C t h) in mv.is ∙ ap (λ x. puts rs z.l (part rs z.r x)) q

        rooted_there : (F : Frame) (C : Context) (t : Term) → LaidAt rs z (F ∷ C) t → 2 * free_bound (fill F t) + 1 < 65536 → RootedAt rs₁ z.top (fill F t)
        rooted_there F C t h b = rw (brought_is F C t h) (rooted rs z F C t h b)

        pub close_rooted : CanClose rs z → HasRooted rs₁ z.top
        close_rooted h = record {
          tree = fill h.holds.frame h.holds.focus;
          there = rooted_there h.holds.frame h.holds.context h.holds.focus h.holds.laid h.low;
        }

        pub close_does : (rs₂ : List Record) (last link : ℕ) → MarksRoot rs₁ rs₂ z.top last → LinkIs rs z.top link
            → Closes rs rs₂ z (record { s = z.top; l = last; r = e; top = link })
        close_does rs₂ last link m k = record {
          does = λ F C t h b.
              let (p, q) = m.does (fill F t) (rooted_there F C t h b) in
              let c = frame_closed rs F C t z.s z.l z.r z.top h in
              let x : rs₂ ≡ set (brought rs z F C t h) z.top (head (fill F t)) = p ∙ ap (λ y. set y z.top (head (fill F t))) (brought_is F C t h) in
              let y : last ≡ z.l + sizes (children_after F) = omega (arith, c.end) in
              let o : link ≡ top_place C = k.is ∙ ap (λ r. r.first) (frame_read rs F C z.s z.r z.top h.around).1 in
              rw (x, y, end_is F C t h, o) c;
          outward = refl;
        }

pub ruleset closing = (close_frame, close_in, close_trees, close_down, close_can, close_rooted, close_does)
