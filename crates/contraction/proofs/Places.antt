-- The children of a low tree that stands before lo stand there too, and are low.
use Prim.Native.Nat.{ℕ, ◌+◌, ◌≤◌}
use native.Mathlib.Omega.{arith}
use mathlib.Core.List.{List, [], ◌∷◌}
use mathlib.Core.Path.{◌≡◌}
use Rattle.rules.specs.Kinds.{Unary, Binary}
use Rattle.rules.specs.Terms.{Fields, Term, unary, binary, size}
use Rattle.rules.specs.Format.{Record}
use Rattle.terms.specs.Children.{kids}
use Rattle.terms.specs.Preorder.{At, HasTree}
use Rattle.terms.specs.Measuring.{Low}
use Rattle.terms.proofs.Trees.{kids_there, first_tree, later_trees}
use Rattle.terms.proofs.Low.{low_kids}

-- The tree t stands at i, before lo, and is low.
pub record Before (rs : List Record) (lo i : ℕ) (t : Term) : Type 0 where
  pub there : At rs i t
  pub upto : i + size t ≤ lo
  pub low : Low 4096 t

pub before_has : {rs : List Record} {lo i : ℕ} {t : Term} → Before rs lo i t → HasTree rs i
before_has {t = t} h = record { tree = t; there = h.there }

-- The two children of a binary root.
module _ (rs : List Record) (i : ℕ) (k : Binary) (f : Fields) (t u : Term) (h : At rs i (binary k f t u)) where
  pub first_child : At rs (i + 1) t
  unfolding kids
  first_child = first_tree rs (i + 1) t (u ∷ []) (kids_there rs i (binary k f t u) h)

  pub second_child : At rs (i + 1 + size t) u
  unfolding kids
  second_child = first_tree rs (i + 1 + size t) u [] (later_trees rs (i + 1) t (u ∷ []) (kids_there rs i (binary k f t u) h))

module _ (rs : List Record) (lo i j : ℕ) where
  pub only_child : (k : Unary) (f : Fields) (t : Term) → j ≡ i + 1 → Before rs lo i (unary k f t) → Before rs lo j t
  unfolding kids size
  only_child k f t e h = record { there = rw e (first_tree rs (i + 1) t [] (kids_there rs i (unary k f t) h.there)); upto = omega arith; low = (low_kids 4096 (unary k f t) h.low).0 }

  module _ (k : Binary) (f : Fields) (t u : Term) (h : Before rs lo i (binary k f t u)) where
    pub first_of_two : j ≡ i + 1 → Before rs lo j t
    unfolding kids size
    first_of_two e = record { there = rw e (first_child rs i k f t u h.there); upto = omega arith; low = (low_kids 4096 (binary k f t u) h.low).0 }

    pub second_of_two : j ≡ i + 1 + size t → Before rs lo j u
    unfolding kids size
    second_of_two e = record { there = rw e (second_child rs i k f t u h.there); upto = omega arith; low = (low_kids 4096 (binary k f t u) h.low).1.0 }
