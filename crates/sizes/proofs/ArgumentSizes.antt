-- `argument_size`: the size of what an argument stands for, or a bound of it. `measuring` for search.
use Prim.Native.Nat.{ℕ, ◌+◌, ◌*◌, ◌≤◌}
use native.Mathlib.Omega.{arith}
use mathlib.Core.List.{List}
use mathlib.Core.Bool.{Bool, true, false}
use mathlib.Core.Path.{◌≡◌, refl, sym, ap, ◌∙◌}
use lib.Dec.{eqb}
use mir.Syntax.{w64}
use mir.Val.{Fits}
use Rattle.rules.specs.Terms.{Term, size}
use Rattle.rules.specs.Indices.{wrapping, wrapped}
use Rattle.rules.specs.Format.{Record}
use Rattle.terms.specs.Preorder.{HasTree}
use Rattle.substitution.specs.declared.arguments.Argument.{Argument}
use Rattle.substitution.specs.declared.arguments.Argument.TheVariants.{Tree, Quote, Opened}
use Rattle.substitution.specs.Arguments.{place_of, described, StandsFor}
use Rattle.copies.specs.Copying.{TreeSize}
use Rattle.sizes.specs.Counting.{weight, size_after, CanCount, CountsSize, HasArgument, Measures}
use Rattle.sizes.proofs.Weights.{Weighs, changed_size, summed_most, weight_most}
use Rattle.sizes.proofs.SizesAfter.{after_most}
use Rattle.copies.proofs.WrappedCopies.{names_one}

-- Each use makes two records.
pub wrapping_weighs : (code : ℕ) → Weighs (wrapping code) (weight 1 2 2)
unfolding size
wrapping_weighs code d f = go (eqb f.a d) refl
  where
    go : (b : Bool) → eqb f.a d ≡ b → size ((wrapping code).on_variable d f) ≡ weight 1 2 2 d f.a
    go true e = rw (names_one d f.a) (rw e)
    go false e = rw (names_one d f.a) (rw e)

-- What an argument stands for is at most twice its tree, and two records more.
pub described_most : (g : Argument) (u : Term) → size (described g u) ≤ 2 + 2 * size u
unfolding described size wrapped
described_most (Tree at) u = omega arith
described_most (Quote at ty) u = omega arith
described_most (Opened at ty a b) u =
    omega (arith, changed_size (wrapping a) (weight 1 2 2) (wrapping_weighs a) 0 u, summed_most (weight 1 2 2) 1 2 (omega arith) (weight_most 1 2 2 2 (omega arith) (omega arith) (omega arith)) 0 u)

-- What is known of an argument's tree, by the argument's form.
module _ (rs : List Record) (g : Argument) (h : HasArgument rs g) where
  pub tree_tree : (at : ℕ) → g ≡ Tree at → HasTree rs at
  unfolding place_of
  tree_tree at e = record { tree = h.stands.tree; there = rw e at h.stands.there }

  pub quote_tree : (at ty : ℕ) → g ≡ Quote at ty → HasTree rs at
  unfolding place_of
  quote_tree at ty e = record { tree = h.stands.tree; there = rw e at h.stands.there }

  pub opened_tree : (at ty a b : ℕ) → g ≡ Opened at ty a b → HasTree rs at
  unfolding place_of
  opened_tree at ty a b e = record { tree = h.stands.tree; there = rw e at h.stands.there }

  pub opened_counts : (at ty a b : ℕ) → g ≡ Opened at ty a b → CanCount rs at 0 2 2
  unfolding place_of
  opened_counts at ty a b e = record {
    tree = h.stands.tree;
    there = rw e at h.stands.there;
    deep = omega (arith, h.small);
    first_small = omega arith;
    second_small = omega arith;
  }

  pub quote_fits : (at ty n : ℕ) → g ≡ Quote at ty → TreeSize rs at n → Fits w64 (1 + n)
  unfolding place_of
  quote_fits at ty n e w = omega (arith, w.is h.stands.tree (rw e at h.stands.there), h.small)

  pub opened_fits : (at ty a b n : ℕ) → g ≡ Opened at ty a b → CountsSize rs at 0 1 2 2 n → Fits w64 (2 + n)
  unfolding place_of size_after
  opened_fits at ty a b n e w =
      omega (arith, w.is h.stands.tree (rw e at h.stands.there), after_most 1 2 2 0 h.stands.tree (omega arith) (omega arith), h.small)

  -- Its size measures it, whether that is asked for exactly or not.
  size_measures : (n : ℕ) (b : Bool) → ((lo hi : ℕ) (t : Term) → StandsFor rs lo hi g t → n ≡ size t) → Measures rs g b n
  size_measures n b q = record {
    most = λ lo hi t s. omega (arith, q lo hi t s);
    is = λ _. q;
    small = omega (arith, q h.lo h.hi h.term h.stands, ap size h.stands.is, described_most g h.stands.tree, h.small);
  }

  module _ (n : ℕ) (b : Bool) where
    pub tree_measured : (at : ℕ) → g ≡ Tree at → TreeSize rs at n → Measures rs g b n
    unfolding place_of described
    tree_measured at e w = size_measures n b (rw e (λ lo hi t s. w.is s.tree s.there ∙ sym (ap size s.is)))

    pub quote_measured : (at ty : ℕ) → g ≡ Quote at ty → TreeSize rs at n → Measures rs g b (1 + n)
    unfolding place_of described size
    quote_measured at ty e w = size_measures (1 + n) b (rw e (λ lo hi t s. omega (arith, w.is s.tree s.there, ap size s.is)))

    pub opened_measured : (at ty a c : ℕ) → g ≡ Opened at ty a c → CountsSize rs at 0 1 2 2 n → Measures rs g b (2 + n)
    unfolding place_of described size wrapped size_after
    opened_measured at ty a c e w = size_measures (2 + n) b (rw e (λ lo hi t s.
        omega (arith, w.is s.tree s.there, changed_size (wrapping a) (weight 1 2 2) (wrapping_weighs a) 0 s.tree, ap size s.is)))

    -- So does a bound of it, by the size n of its tree, where it is not.
    pub opened_bounded : b ≡ false → (at ty a c : ℕ) → g ≡ Opened at ty a c → TreeSize rs at n → Measures rs g b (2 + 2 * n)
    unfolding place_of
    opened_bounded z at ty a c e w = rw (z, e) (record {
      most = λ lo hi t s. omega (arith, w.is s.tree s.there, ap size s.is, described_most (Opened at ty a c) s.tree);
      is = λ y. absurd y;
      small = omega (arith, w.is h.stands.tree (rw e at h.stands.there), h.small);
    })

  pub doubled_fits : (at ty a b n : ℕ) → g ≡ Opened at ty a b → TreeSize rs at n → Fits w64 (2 * n)
  unfolding place_of
  doubled_fits at ty a b n e w = omega (arith, w.is h.stands.tree (rw e at h.stands.there), h.small)

  pub doubled_two_fits : (at ty a b n : ℕ) → g ≡ Opened at ty a b → TreeSize rs at n → Fits w64 (2 + 2 * n)
  unfolding place_of
  doubled_two_fits at ty a b n e w = omega (arith, w.is h.stands.tree (rw e at h.stands.there), h.small)

pub ruleset measuring = (tree_tree, quote_tree, opened_tree, opened_counts, quote_fits, opened_fits, tree_measured, quote_measured, opened_measured, opened_bounded, doubled_fits, doubled_two_fits)
