-- `child_towards`, `descend`: the laws of going down. `towards` and `deepening` for search.
use Prim.Native.Nat.{ℕ, ◌+◌, ◌-◌, ◌≤◌, ◌<◌}
use native.Mathlib.Omega.{arith}
use mathlib.Core.List.{List, [], ◌∷◌, ◌++◌, append_assoc}
use mathlib.Core.Logic.{◌≢◌}
use mathlib.Core.Path.{◌≡◌, refl, sym, ap, ◌∙◌, subst}
use lib.ListN.{length}
use mir.Syntax.{w16, w64}
use mir.Val.{Fits}
use Rattle.rules.specs.Terms.{Term, size}
use Rattle.rules.specs.Typing.{first_level}
use Rattle.rules.specs.Format.{Record}
use Rattle.rules.proofs.KindTable.{few_children}
use Rattle.rules.proofs.Laid.{size_some}
use Rattle.terms.specs.Children.{sizes, preorders}
use Rattle.contexts.specs.Contexts.{Frame, fill, frame_kind, children_before, children_after, hole_number, Context, plug, level_at, left_size}
use Rattle.contexts.proofs.Contexts.{plug_append, left_append}
use Rattle.contexts.proofs.Sides.{kids_filled, size_plugged}
use Rattle.zipper.specs.declared.focus.Ahead.{Ahead}
use Rattle.terms.specs.Preorder.{There, At, HasTree, Skips}
use Rattle.zipper.specs.Focusing.{AheadAt, CanOpen, Opens}
use Rattle.navigation.specs.Descending.{Leads, CanTellChild, TellsChild, Towards, CanDescend, Descends}
use Rattle.terms.proofs.Trees.{first_tree, later_trees, kids_there}
use Rattle.zipper.proofs.Rows.{children_counted}

-- The hole is one of three children at most.
hole_few : (F : Frame) → hole_number F ≤ 2
hole_few F = omega (arith, children_counted F, few_children (frame_kind F))

-- `child_towards`: the children before the hole from `at` on are left, then the one in it.
record Passing (rs : List Record) (first at j : ℕ) (F : Frame) (v : Term) : Type 0 where
  rest : List Term
  there : There rs at (preorders (rest ++ (v ∷ children_after F)))
  place : at + sizes rest ≡ first + sizes (children_before F)
  count : j + length rest ≡ hole_number F

pub record Telling (rs : List Record) (first p at j : ℕ) : Type 0 where
  all : (F : Frame) (v : Term) → Leads rs first p F v → Passing rs first at j F v
  some : CanTellChild rs first p

pub tell_starts : (rs : List Record) (first p : ℕ) → CanTellChild rs first p → Telling rs first p first 0
tell_starts rs first p h = record {
  all = λ F v g. record {
    rest = children_before F;
    there = subst (λ ts. There rs first (preorders ts)) (kids_filled F v) g.there;
    place = refl;
    count = omega arith;
  };
  some = h;
}

module _ (rs : List Record) (first p at j : ℕ) (h : Telling rs first p at j) where
  first_passing : Passing rs first at j h.some.frame h.some.inner
  first_passing = h.all h.some.frame h.some.inner h.some.leads

  pub tell_tree : HasTree rs at
  tell_tree = go first_passing.rest first_passing.there
    where
      go : (us : List Term) → There rs at (preorders (us ++ (h.some.inner ∷ children_after h.some.frame))) → HasTree rs at
      go [] g = record { tree = h.some.inner; there = first_tree rs at _ _ g }
      go (u ∷ us) g = record { tree = u; there = first_tree rs at u _ g }

  module _ (e : ℕ) (sk : Skips rs at e) where
    -- The record at p is before the end of the child at `at` where that is the hole's, and only there.
    pub tell_ends : p < e → TellsChild rs first p j
    unfolding sizes
    tell_ends l = record { is = λ F v g. let q = h.all F v g in go F v g q.rest q.there q.place q.count }
      where
        go : (F : Frame) (v : Term) → Leads rs first p F v → (us : List Term) → There rs at (preorders (us ++ (v ∷ children_after F)))
            → at + sizes us ≡ first + sizes (children_before F) → j + length us ≡ hole_number F → hole_number F ≡ j
        go F v g [] t a c = omega arith
        go F v g (u ∷ us) t a c = absurd (omega (arith, sk.is u (first_tree rs at u _ t), g.from))

    module _ (l : e ≤ p) where
      record Passed (F : Frame) (v : Term) : Type 0 where
        child : Term
        later : List Term
        there : At rs at child
        after : There rs (at + size child) (preorders (later ++ (v ∷ children_after F)))
        place : at + size child + sizes later ≡ first + sizes (children_before F)
        count : j + 1 + length later ≡ hole_number F

      passed : (F : Frame) (v : Term) → Leads rs first p F v → Passed F v
      unfolding sizes
      passed F v g = let q = h.all F v g in go q.rest q.there q.place q.count
        where
          go : (us : List Term) → There rs at (preorders (us ++ (v ∷ children_after F))) → at + sizes us ≡ first + sizes (children_before F) → j + length us ≡ hole_number F → Passed F v
          go [] t a c = absurd (omega (arith, sk.is v (first_tree rs at v _ t), g.below))
          go (u ∷ us) t a c = record { child = u; later = us; there = first_tree rs at u _ t; after = later_trees rs at u _ t; place = omega arith; count = omega arith }

      first_passed : Passed h.some.frame h.some.inner
      first_passed = passed h.some.frame h.some.inner h.some.leads

      pub tell_falls : p - e < p - at
      tell_falls = let q = first_passed in omega (arith, sk.is q.child q.there, size_some q.child)

      pub tell_count : Fits w16 (j + 1)
      tell_count = omega (arith, first_passed.count, hole_few h.some.frame)

      pub tell_next : Telling rs first p e (j + 1)
      tell_next = record {
        all = λ F v g.
            let q = passed F v g in
            let i = sk.is q.child q.there in
            record { rest = q.later; there = subst (λ x. There rs x (preorders (q.later ++ (v ∷ children_after F)))) (sym i) q.after; place = omega (arith, q.place); count = q.count };
        some = h.some;
      }

pub ruleset towards = (tell_starts, tell_tree, tell_ends, tell_falls, tell_count, tell_next)

-- `descend`: the outermost frame on the way.
record Split (D : Context) : Type 0 where
  inner : Context
  frame : Frame
  same : D ≡ inner ++ (frame ∷ [])

split : (F : Frame) (D : Context) → Split (F ∷ D)
split F [] = record { inner = []; frame = F; same = refl }
split F (G ∷ D) = let q = split G D in record { inner = F ∷ q.inner; frame = q.frame; same = ap (λ l. F ∷ l) q.same }

split_some : (D : Context) → left_size D ≢ 0 → Split D
unfolding left_size
split_some [] n = absurd (n refl)
split_some (F ∷ D) n = split F D

-- What is left of the way to u, where its outermost frames are opened.
record Nearer (rs : List Record) (a : Ahead) (p : ℕ) (D C : Context) (u : Term) : Type 0 where
  inner : Context
  context : Context
  same : inner ++ context ≡ D ++ C
  towards : Towards rs a p inner context u

module _ (rs : List Record) (a : Ahead) (p : ℕ) (n : a.r ≢ p) where
  -- The outermost frame's tree is the focus, and the way leads into its hole.
  record Way (D C : Context) (u : Term) : Type 0 where
    split : Split D
    laid : AheadAt rs a C (fill split.frame (plug split.inner u))
    leads : Leads rs (a.r + 1) p split.frame (plug split.inner u)
    place : p ≡ a.r + (1 + sizes (children_before split.frame)) + left_size split.inner

  way : (D C : Context) (u : Term) → Towards rs a p D C u → Way D C u
  unfolding plug left_size
  way D C u h =
      let q = split_some D (λ e. n (omega (arith, h.place))) in
      let E = q.inner in
      let G = q.frame in
      let o = ap left_size q.same ∙ left_append E (G ∷ []) in
      let y : AheadAt rs a C (fill G (plug E u)) = subst (λ t. AheadAt rs a C t) (ap (λ l. plug l u) q.same ∙ plug_append E (G ∷ []) u) h.laid in
      record {
        split = q;
        laid = y;
        leads = record {
          there = kids_there rs a.r (fill G (plug E u)) (record { there = y.focus });
          from = omega (arith, h.place);
          below = omega (arith, h.place, size_plugged E u, size_some u);
        };
        place = omega (arith, h.place);
      }

  module _ (j : ℕ) (tc : TellsChild rs (a.r + 1) p j) (rs' : List Record) (r : Ahead) (op : Opens rs rs' a j r) where
    nearer : (D C : Context) (u : Term) → Towards rs a p D C u → Nearer rs' r p D C u × (a.r < r.r)
    unfolding level_at
    nearer D C u h =
        let g = way D C u h in
        let E = g.split.inner in
        let G = g.split.frame in
        let e = tc.is G (plug E u) g.leads in
        let i = op.place G C (plug E u) g.laid e in (
          record {
            inner = E;
            context = G ∷ C;
            same = sym (ap (λ l. l ++ C) g.split.same ∙ (simp append_assoc));
            towards = record {
              laid = op.does G C (plug E u) g.laid e;
              place = omega (arith, g.place);
              at_level = op.level G C (plug E u) g.laid ∙ ap (first_level (frame_kind G)) h.at_level;
            };
          },
          omega arith,
        )

pub record Deepening (rs₀ : List Record) (a₀ : Ahead) (p : ℕ) (rs : List Record) (a : Ahead) : Type 0 where
  keeps : (D C : Context) (u : Term) → Towards rs₀ a₀ p D C u → Nearer rs a p D C u
  some : CanDescend rs₀ a₀ p

pub deep_starts : (rs : List Record) (a : Ahead) (p : ℕ) → CanDescend rs a p → Deepening rs a p rs a
deep_starts rs a p h = record { keeps = λ D C u g. record { inner = D; context = C; same = refl; towards = g }; some = h }

module _ (rs₀ : List Record) (a₀ : Ahead) (p : ℕ) (rs : List Record) (a : Ahead) (h : Deepening rs₀ a₀ p rs a) where
  now_at : Nearer rs a p h.some.inner h.some.context h.some.tree
  now_at = h.keeps h.some.inner h.some.context h.some.tree h.some.towards

  pub deep_fits : Fits w64 (a.r + 1)
  deep_fits = omega (arith, now_at.towards.laid.around.whole)

  module _ (n : a.r ≢ p) where
    next_way : Way rs a p n now_at.inner now_at.context h.some.tree
    next_way = way rs a p n now_at.inner now_at.context h.some.tree now_at.towards

    pub deep_tells : CanTellChild rs (a.r + 1) p
    deep_tells = record { frame = next_way.split.frame; inner = plug next_way.split.inner h.some.tree; leads = next_way.leads }

    module _ (j : ℕ) (tc : TellsChild rs (a.r + 1) p j) where
      pub deep_opens : CanOpen rs a j
      deep_opens = let w = next_way in
          record { frame = w.split.frame; context = now_at.context; inner = plug w.split.inner h.some.tree; laid = w.laid; hole = tc.is _ _ w.leads }

      module _ (rs' : List Record) (r : Ahead) (op : Opens rs rs' a j r) where
        pub deep_less : p - r.r < p - a.r
        deep_less =
            let (q, c) = nearer rs a p n j tc rs' r op now_at.inner now_at.context h.some.tree now_at.towards in
            omega (arith, q.towards.place, now_at.towards.place)

        pub deep_next : Deepening rs₀ a₀ p rs' r
        deep_next = record {
          keeps = λ D C u t.
              let q = h.keeps D C u t in
              let s = (nearer rs a p n j tc rs' r op q.inner q.context u q.towards).0 in
              record { inner = s.inner; context = s.context; same = s.same ∙ q.same; towards = s.towards };
          some = h.some;
        }

  pub deep_ends : a.r ≡ p → Descends rs₀ rs a₀ p a
  unfolding left_size plug
  deep_ends e = record { does = λ D C u t. (ended D C u t).0; level = λ D C u t. (ended D C u t).1; place = e }
    where
      ended : (D C : Context) (u : Term) → Towards rs₀ a₀ p D C u → AheadAt rs a (D ++ C) u × (a.level ≡ level_at 0 (D ++ C))
      ended D C u t = let q = h.keeps D C u t in go q.inner q.context q.same q.towards
        where
          go : (E B : Context) → E ++ B ≡ D ++ C → Towards rs a p E B u → AheadAt rs a (D ++ C) u × (a.level ≡ level_at 0 (D ++ C))
          go [] B q w = (subst (λ l. AheadAt rs a l u) q w.laid, w.at_level ∙ ap (level_at 0) q)
          go (F ∷ E) B q w = absurd (omega (arith, w.place))

pub ruleset deepening = (deep_starts, deep_fits, deep_tells, deep_opens, deep_less, deep_next, deep_ends)
