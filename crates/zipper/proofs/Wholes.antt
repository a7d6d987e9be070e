-- `close_all`: a frame is closed at each turn, and the whole term stays the same. `closing_all` for search.
use Prim.Native.Nat.{◌<◌}
use native.Mathlib.Omega.{arith}
use mathlib.Core.List.{List, [], ◌∷◌}
use mathlib.Core.Logic.{◌≢◌}
use mathlib.Core.Path.{◌≡◌, refl, sym, subst}
use Rattle.rules.specs.Terms.{Term}
use Rattle.rules.specs.Types.{Table}
use Rattle.rules.specs.Typing.{Typed}
use Rattle.rules.specs.Format.{Record}
use Rattle.contexts.specs.Contexts.{Frame, fill, Context, plug, left_size}
use Rattle.zipper.specs.declared.focus.Focus.{Focus}
use Rattle.zipper.specs.Focusing.{LaidAt, CanClose, Closes, CanCloseAll, ClosesAll}
use Rattle.zipper.proofs.Places.{at_start}
use Rattle.zipper.proofs.Closing.{filled_low}

-- Some focus of the same whole term.
record Same (rs : List Record) (z : Focus) (whole : Term) : Type 0 where
  context : Context
  focus : Term
  laid : LaidAt rs z context focus
  same : plug context focus ≡ whole

pub record ClosingAll (rs₀ : List Record) (z₀ : Focus) (rs : List Record) (z : Focus) : Type 0 where
  keeps : (types : Table) (C : Context) (t : Term) → LaidAt rs₀ z₀ C t → Typed types [] 0 (plug C t) → Same rs z (plug C t)
  some : CanCloseAll rs₀ z₀

pub all_starts : (rs : List Record) (z : Focus) → CanCloseAll rs z → ClosingAll rs z rs z
all_starts rs z h = record { keeps = λ types C t l y. record { context = C; focus = t; laid = l; same = refl }; some = h }

-- Where the focus doesn't start at 0 it has a frame.
module _ (rs : List Record) (z : Focus) (n : z.s ≢ 0) (whole : Term) where
  record Framed : Type 0 where
    frame : Frame
    context : Context
    focus : Term
    laid : LaidAt rs z (frame ∷ context) focus
    same : plug (frame ∷ context) focus ≡ whole

  framed : Same rs z whole → Framed
  unfolding left_size
  framed q = go q.context q.focus q.laid q.same
    where
      go : (C : Context) (t : Term) → LaidAt rs z C t → plug C t ≡ whole → Framed
      go [] t l e = absurd (n l.around.start)
      go (F ∷ C) t l e = record { frame = F; context = C; focus = t; laid = l; same = e }

  fits : (types : Table) → Typed types [] 0 whole → (f : Framed) → CanClose rs z
  fits types y f = record {
    holds = record { frame = f.frame; context = f.context; focus = f.focus; laid = f.laid };
    low = filled_low types rs z f.frame f.context f.focus f.laid (subst (Typed types [] 0) (sym f.same) y);
  }

module _ (rs₀ : List Record) (z₀ : Focus) (rs : List Record) (z : Focus) (h : ClosingAll rs₀ z₀ rs z) where
  now_at : Same rs z (plug h.some.context h.some.focus)
  now_at = h.keeps h.some.types h.some.context h.some.focus h.some.laid h.some.typed

  pub all_can : z.s ≢ 0 → CanClose rs z
  all_can n = fits rs z n _ h.some.types h.some.typed (framed rs z n _ now_at)

  module _ (rs' : List Record) (r : Focus) (c : Closes rs rs' z r) (n : z.s ≢ 0) where
    pub all_less : r.s < z.s
    all_less = let f = framed rs z n _ now_at in omega (arith, c.outward, at_start rs f.frame f.context z.s z.r z.top f.laid.around)

    pub all_next : ClosingAll rs₀ z₀ rs' r
    unfolding plug
    all_next = record {
      keeps = λ types C t l y.
          let f = framed rs z n _ (h.keeps types C t l y) in
          record {
            context = f.context;
            focus = fill f.frame f.focus;
            laid = c.does f.frame f.context f.focus f.laid (filled_low types rs z f.frame f.context f.focus f.laid (subst (Typed types [] 0) (sym f.same) y));
            same = f.same;
          };
      some = h.some;
    }

  pub all_ends : z.s ≡ 0 → ClosesAll rs₀ rs z₀ z
  unfolding plug left_size
  all_ends e = record { does = λ types C t l y. let q = h.keeps types C t l y in go q.context q.focus q.laid _ q.same }
    where
      go : (C : Context) (t : Term) → LaidAt rs z C t → (whole : Term) → plug C t ≡ whole → LaidAt rs z [] whole
      go [] t l whole q = subst (λ x. LaidAt rs z [] x) q l
      go (F ∷ C) t l whole q = absurd (omega (arith, l.around.start))

pub ruleset closing_all = (all_starts, all_can, all_less, all_next, all_ends)
