-- `open_ahead`: the laws of making a frame of the focus's root. `opening` for search.
use Prim.Native.Nat.{ℕ, ◌+◌, ◌-◌, ◌≤◌, ◌<◌}
use native.Mathlib.Omega.{arith}
use mathlib.Core.List.{List, [], ◌∷◌}
use mathlib.Core.Logic.{inr}
use mathlib.Core.Path.{◌≡◌, ap, ◌∙◌}
use lib.ListN.{length, get_or, set}
use mir.Syntax.{w16}
use mir.Val.{Fits}
use Rattle.rules.specs.Kinds.{kind_number}
use Rattle.rules.specs.Terms.{Term, size}
use Rattle.rules.specs.Typing.{first_level}
use Rattle.rules.specs.Format.{Record, no_record}
use Rattle.kinds.specs.declared.names.Kind.{Kind}
use Rattle.kinds.specs.Named.{kind_meant}
use Rattle.terms.specs.Preorder.{puts, part, head}
use Rattle.terms.specs.Moves.{CanMove, Moved}
use Rattle.terms.specs.Children.{sizes, preorders}
use Rattle.contexts.specs.Contexts.{Frame, fill, frame_kind, frame_fields, children_before, hole_number, hole_level, Context, left_size}
use Rattle.contexts.specs.Sides.{top_place}
use Rattle.contexts.proofs.Contexts.{root_filled}
use Rattle.contexts.proofs.Sides.{size_filled}
use Rattle.zipper.specs.declared.focus.Ahead.{Ahead}
use Rattle.terms.specs.Measuring.{Relinks, HasKind, KindIs}
use Rattle.zipper.specs.Layout.{chained}
use Rattle.zipper.specs.Focusing.{HasTrees, SkipsAll, AheadAt, CanOpen, Opens}
use Rattle.terms.proofs.There.{there_head}
use Rattle.terms.proofs.Trees.{kind_at}
use Rattle.terms.proofs.Readings.{tree_kind}
use Rattle.zipper.proofs.Opened.{before_there, taken_there, root_opened_right}

-- The innermost frame's record is on the left side.
top_low : (C : Context) → top_place C ≤ left_size C
unfolding top_place left_size
top_low [] = omega arith
top_low (F ∷ C) = omega arith

module _ (rs : List Record) (a : Ahead) (j : ℕ) where
  pub open_root : CanOpen rs a j → HasKind rs a.r
  open_root h = tree_kind rs a.r (record { tree = fill h.frame h.inner; there = record { there = h.laid.focus } })

  pub open_trees : CanOpen rs a j → HasTrees rs (a.r + 1) j
  open_trees h = record { trees = children_before h.frame; count = h.hole; there = before_there rs h.frame h.inner a.r h.laid.focus }

  pub open_cast : CanOpen rs a j → Fits w16 a.top
  open_cast h = omega (arith, top_low h.context, h.laid.around.frame, h.laid.around.start, h.laid.around.whole, h.laid.gap)

  module _ (start : ℕ) (sa : SkipsAll rs (a.r + 1) j start) where
    start_is : (F : Frame) (C : Context) (t : Term) → AheadAt rs a C (fill F t) → hole_number F ≡ j → start ≡ a.r + (1 + sizes (children_before F))
    start_is F C t h e = omega (arith, sa.is (children_before F) e (before_there rs F t a.r h.focus))

    first_start : (h : CanOpen rs a j) → start ≡ a.r + (1 + sizes (children_before h.frame))
    first_start h = start_is h.frame h.context h.inner h.laid h.hole

    pub open_down : CanOpen rs a j → a.r ≤ start
    open_down h = omega (arith, first_start h)

    pub open_can : CanOpen rs a j → CanMove rs a.r a.l (start - a.r)
    open_can h =
        let i = first_start h in
        let n = size_filled h.frame h.inner in
        let w = h.laid.around.whole in
        let r = h.laid.around.room in
        let g = h.laid.gap in
        record { from = omega arith; to = omega arith; apart = inr (omega arith) }

    module _ (rs₁ : List Record) (mv : Moved rs rs₁ a.r a.l (start - a.r)) where
      taken_is : (F : Frame) (C : Context) (t : Term) → AheadAt rs a C (fill F t) → hole_number F ≡ j → rs₁ ≡ puts rs a.l (part rs a.r (1 + sizes (children_before F)))
      taken_is F C t h e = let n : start - a.r ≡ 1 + sizes (children_before F) = omega (arith, start_is F C t h e) in mv.is ∙ ap (λ x. puts rs a.l (part rs a.r x)) n

      root_taken : (F : Frame) (C : Context) (t : Term) → AheadAt rs a C (fill F t) → hole_number F ≡ j → (a.l < length rs₁) × (get_or rs₁ a.l no_record ≡ head (fill F t))
      root_taken F C t h e = rw (taken_is F C t h e) (there_head _ a.l (head (fill F t)) (preorders (children_before F)) (taken_there rs F C t a.l a.r (a.r + size (fill F t)) a.top h))

      pub open_in : CanOpen rs a j → a.l < length rs₁
      open_in h = (root_taken h.frame h.context h.inner h.laid h.hole).0

      module _ (k : Kind) (lv : ℕ) (kd : KindIs rs a.r k) (v : lv ≡ first_level (kind_meant k) a.level) (rs₂ : List Record) (p : Relinks rs₁ rs₂ a.l a.top 0) where
        abbrev opened : Ahead
        opened = record { l = a.l + (start - a.r); r = start; top = a.l; level = lv }

        opens : (F : Frame) (C : Context) (t : Term) → AheadAt rs a C (fill F t) → hole_number F ≡ j → AheadAt rs₂ opened (F ∷ C) t
        opens F C t h e =
            let i = start_is F C t h e in
            let n : start - a.r ≡ 1 + sizes (children_before F) = omega arith in
            let m = (root_taken F C t h e).1 in
            let (k, f) = root_filled F t in
            let b : (get_or rs₁ a.l no_record).kind ≡ kind_number (frame_kind F) = ap (λ r. r.kind) m ∙ ap kind_number k in
            let c : (get_or rs₁ a.l no_record).fields ≡ frame_fields F = ap (λ r. r.fields) m ∙ f in
            let x : record { kind = (get_or rs₁ a.l no_record).kind; fields = (get_or rs₁ a.l no_record).fields; first = a.top; next = 0 } ≡ chained F a.top =
            λ i. record { kind = b i; fields = c i; first = a.top; next = 0 } in
            let y = p.is ∙ ap (set rs₁ a.l) x ∙ ap (λ l. set l a.l (chained F a.top)) (taken_is F C t h e) in
            rw (y, n, i) (root_opened_right rs F C t a.l a.r (a.r + size (fill F t)) a.top h)

        hole_level_lem : (F : Frame) (C : Context) (t : Term) → AheadAt rs a C (fill F t) → lv ≡ hole_level F a.level
        hole_level_lem F C t h = v ∙ ap (λ y. first_level y a.level)
            (kd.is ∙ kind_at rs a.r (fill F t) (record { there = h.focus }) ∙ (root_filled F t).0)

        pub open_does : Opens rs rs₂ a j opened
        open_does = record { does = opens; level = hole_level_lem; place = start_is }

pub ruleset opening = (open_root, open_trees, open_cast, open_down, open_can, open_in, open_does)
