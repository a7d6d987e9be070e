-- `skip_all`, `children_after`: trees that stand one after another are skipped one at a time. `skipping` and `counting` for search.
use Prim.Native.Nat.{ℕ, suc, ◌+◌, ◌-◌, ◌^◌, ◌≤◌, ◌<◌}
use native.Mathlib.Omega.{arith}
use mathlib.Core.List.{List, [], ◌∷◌}
use mathlib.Core.Path.{◌≡◌, refl, sym, ap, ◌∙◌, subst}
use lib.ListN.{length}
use mir.Syntax.{w64}
use mir.Val.{Fits}
use Rattle.rules.specs.Kinds.{child_count, kind_of}
use Rattle.rules.specs.Terms.{Term, size}
use Rattle.rules.specs.Format.{Record}
use Rattle.rules.proofs.KindTable.{kind_back, kind_range}
use Rattle.rules.proofs.Laid.{size_some}
use Rattle.kinds.specs.declared.names.Kind.{Kind}
use Rattle.kinds.specs.Named.{kind_meant}
use Rattle.records.specs.View.{records_in}
use Rattle.records.proofs.Records.{records_length}
use Rattle.terms.specs.Children.{sizes, preorders}
use Rattle.contexts.specs.Contexts.{Frame, only, first, second, first₃, second₃, third₃, frame_kind, children_before, children_after, Context}
use Rattle.zipper.specs.declared.focus.Focus.{Focus}
use Rattle.terms.specs.Preorder.{There, At, HasTree, Skips}
use Rattle.terms.specs.Measuring.{HasKind, KindIs}
use Rattle.zipper.specs.Focusing.{HasTrees, SkipsAll, LaidAt, HasFrame, CountsAfter}
use Rattle.terms.proofs.Trees.{first_tree, later_trees}
use Rattle.zipper.proofs.Places.{at_start, frame_read, siblings}

-- `skip_all`: the trees from `at` on are left, of those that stand from i on.
record Row (rs : List Record) (i n at j : ℕ) (ts : List Term) : Type 0 where
  rest : List Term
  there : There rs at (preorders rest)
  count : j + length rest ≡ n
  place : at + sizes rest ≡ i + sizes ts

pub record Skipping (rs : List Record) (i n at j : ℕ) : Type 0 where
  all : (ts : List Term) → length ts ≡ n → There rs i (preorders ts) → Row rs i n at j ts
  some : HasTrees rs i n

pub skip_starts : (rs : List Record) (i n : ℕ) → HasTrees rs i n → Skipping rs i n i 0
skip_starts rs i n h = record { all = λ ts e g. record { rest = ts; there = g; count = omega arith; place = refl }; some = h }

module _ (rs : List Record) (i n at j : ℕ) (h : Skipping rs i n at j) where
  pub skip_tree : j < n → HasTree rs at
  skip_tree l = let q = h.all h.some.trees h.some.count h.some.there in go q.rest q.there q.count
    where
      go : (us : List Term) → There rs at (preorders us) → j + length us ≡ n → HasTree rs at
      go [] g o = absurd (omega arith)
      go (u ∷ us) g o = record { tree = u; there = first_tree rs at u us g }

  pub skip_next : (e : ℕ) → Skips rs at e → j < n → Skipping rs i n e (j + 1)
  unfolding sizes
  skip_next e sk l = record { all = λ ts c g. let q = h.all ts c g in go ts q.rest q.there q.count q.place; some = h.some }
    where
      go : (ts us : List Term) → There rs at (preorders us) → j + length us ≡ n → at + sizes us ≡ i + sizes ts → Row rs i n e (j + 1) ts
      go ts [] g o p = absurd (omega arith)
      go ts (u ∷ us) g o p =
          let q = sk.is u (first_tree rs at u us g) in
          record { rest = us; there = subst (λ x. There rs x (preorders us)) (sym q) (later_trees rs at u us g); count = omega arith; place = omega arith }

  pub skip_ends : n ≤ j → SkipsAll rs i n at
  unfolding sizes
  skip_ends l = record { is = λ ts c g. let q = h.all ts c g in go ts q.rest q.count q.place }
    where
      go : (ts us : List Term) → j + length us ≡ n → at + sizes us ≡ i + sizes ts → at ≡ i + sizes ts
      go ts [] o p = omega arith
      go ts (u ∷ us) o p = absurd (omega arith)

pub ruleset skipping = (skip_starts, skip_tree, skip_next, skip_ends)

-- `children_after`: the children before the hole from `at` on are left.
pub children_counted : (F : Frame) → child_count (frame_kind F) ≡ length (children_before F) + 1 + length (children_after F)
children_counted (only k f) = refl
children_counted (first k f u) = refl
children_counted (second k f s) = refl
children_counted (first₃ k f u v) = refl
children_counted (second₃ k f s v) = refl
children_counted (third₃ k f s u) = refl

record Before (rs : List Record) (s at left : ℕ) (F : Frame) : Type 0 where
  rest : List Term
  there : There rs at (preorders rest)
  place : at + sizes rest ≡ s
  count : left ≡ length rest + length (children_after F)

pub record Counting (rs : List Record) (z : Focus) (at left : ℕ) : Type 0 where
  all : (F : Frame) (C : Context) (t : Term) → LaidAt rs z (F ∷ C) t → Before rs z.s at left F
  some : HasFrame rs z

pub frame_in : (rs : List Record) (z : Focus) → HasFrame rs z → z.top < length rs
frame_in rs z h = (frame_read rs h.frame h.context z.s z.r z.top h.laid.around).0

-- A frame's record has a known kind.
pub frame_known : (rs : List Record) (z : Focus) → HasFrame rs z → HasKind rs z.top
frame_known rs z h = record {
  within = frame_in rs z h;
  known = rw ((frame_read rs h.frame h.context z.s z.r z.top h.laid.around).1) (kind_range (frame_kind h.frame));
}

pub frame_fits : (s : List ℕ) (z : Focus) → HasFrame (records_in s) z → length s < 2 ^ 64 → Fits w64 (z.top + 1)
frame_fits s z h b = omega (arith, frame_in (records_in s) z h, records_length s)

module _ (rs : List Record) (z : Focus) (k : Kind) (c : ℕ) (kd : KindIs rs z.top k) (n : c ≡ child_count (kind_meant k)) where
  pub counted : (F : Frame) (C : Context) (t : Term) → LaidAt rs z (F ∷ C) t → c ≡ length (children_before F) + 1 + length (children_after F)
  counted F C t h =
      let e = (frame_read rs F C z.s z.r z.top h.around).1 in
      n ∙ ap child_count (kd.is ∙ ap (λ x. kind_of x.kind) e ∙ kind_back (frame_kind F)) ∙ children_counted F

  pub count_some : HasFrame rs z → 1 ≤ c
  count_some h = omega (arith, counted h.frame h.context h.focus h.laid)

  pub count_starts : HasFrame rs z → Counting rs z (z.top + 1) (c - 1)
  count_starts h = record {
    all = λ F C t g. record {
      rest = children_before F;
      there = siblings rs F C z.s z.r z.top g.around;
      place = sym (at_start rs F C z.s z.r z.top g.around);
      count = omega (arith, counted F C t g);
    };
    some = h;
  }

module _ (rs : List Record) (z : Focus) (at left : ℕ) (h : Counting rs z at left) where
  record Next (F : Frame) : Type 0 where
    child : Term
    later : List Term
    there : At rs at child
    after : There rs (at + size child) (preorders later)
    place : at + size child + sizes later ≡ z.s
    count : left ≡ suc (length later) + length (children_after F)

  next : at < z.s → (F : Frame) (C : Context) (t : Term) → LaidAt rs z (F ∷ C) t → Next F
  unfolding sizes
  next l F C t g = let q = h.all F C t g in go q.rest q.there q.place q.count
    where
      go : (us : List Term) → There rs at (preorders us) → at + sizes us ≡ z.s → left ≡ length us + length (children_after F) → Next F
      go [] b p o = absurd (omega arith)
      go (u ∷ us) b p o = record { child = u; later = us; there = first_tree rs at u us b; after = later_trees rs at u us b; place = omega arith; count = o }

  first_next : at < z.s → Next h.some.frame
  first_next l = next l h.some.frame h.some.context h.some.focus h.some.laid

  pub count_tree : at < z.s → HasTree rs at
  count_tree l = let q = first_next l in record { tree = q.child; there = q.there }

  pub count_left : at < z.s → 1 ≤ left
  count_left l = omega (arith, (first_next l).count)

  pub count_falls : at < z.s → left - 1 < left
  count_falls l = omega (arith, (first_next l).count)

  pub count_next : (e : ℕ) → Skips rs at e → at < z.s → Counting rs z e (left - 1)
  count_next e sk l = record {
    all = λ F C t g.
        let q = next l F C t g in
        let i = sk.is q.child q.there in
        record { rest = q.later; there = subst (λ x. There rs x (preorders q.later)) (sym i) q.after; place = omega (arith, q.place); count = omega (arith, q.count) };
    some = h.some;
  }

  pub count_ends : z.s ≤ at → CountsAfter rs z left
  unfolding sizes
  count_ends l = record { is = λ F C t g. let q = h.all F C t g in go F q.rest q.place q.count }
    where
      go : (F : Frame) (us : List Term) → at + sizes us ≡ z.s → left ≡ length us + length (children_after F) → left ≡ length (children_after F)
      go F [] p o = omega arith
      go F (u ∷ us) p o = absurd (omega (arith, size_some u))

pub ruleset counting = (frame_known, frame_fits, count_some, count_starts, count_tree, count_left, count_falls, count_next, count_ends)
