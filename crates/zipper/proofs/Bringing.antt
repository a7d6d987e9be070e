-- `bring`: the laws of bringing the focus over the gap. `bringing` for search.
use Prim.Native.Nat.{ℕ, ◌+◌, ◌-◌, ◌≤◌}
use native.Mathlib.Omega.{arith}
use mathlib.Core.List.{List}
use mathlib.Core.Logic.{inr}
use mathlib.Core.Path.{◌≡◌, refl}
use Rattle.rules.specs.Terms.{size}
use Rattle.rules.specs.Format.{Record}
use Rattle.rules.proofs.Laid.{size_some}
use Rattle.terms.specs.Moves.{CanMove, Moved}
use Rattle.zipper.specs.declared.focus.Ahead.{Ahead}
use Rattle.terms.specs.Preorder.{HasTree, Skips}
use Rattle.zipper.specs.Focusing.{HasAhead, Brings}
use Rattle.zipper.proofs.Moves.{brought_left}

module _ (rs : List Record) (a : Ahead) where
  pub bring_tree : HasAhead rs a → HasTree rs a.r
  bring_tree h = record { tree = h.focus; there = record { there = h.laid.focus } }

  module _ (e : ℕ) (sk : Skips rs a.r e) where
    end_is : (h : HasAhead rs a) → e ≡ a.r + size h.focus
    end_is h = sk.is h.focus (record { there = h.laid.focus })

    pub bring_down : HasAhead rs a → a.r ≤ e
    bring_down h = omega (arith, end_is h)

    pub bring_can : HasAhead rs a → CanMove rs a.r a.l (e - a.r)
    bring_can h =
        let i = end_is h in
        let w = h.laid.around.whole in
        let r = h.laid.around.room in
        let g = h.laid.gap in
        record { from = omega arith; to = omega arith; apart = inr (omega arith) }

    pub bring_does : HasAhead rs a → (rs' : List Record) → Moved rs rs' a.r a.l (e - a.r) → Brings rs rs' a (record { s = a.l; l = a.l + (e - a.r); r = e; top = a.top })
    bring_does h rs' mv = record {
      does = λ C t g.
          let i = sk.is t (record { there = g.focus }) in
          let n : e - a.r ≡ size t = omega arith in
          rw (mv.is, n, i) (brought_left rs C t a.l a.r (a.r + size t) a.top g);
      from = refl;
      onward = omega (arith, end_is h, size_some h.focus);
    }

pub ruleset bringing = (bring_tree, bring_down, bring_can, bring_does)
