-- The children of a root that stand one after another, from child j on, and the next of them.
use Prim.Native.Nat.{ℕ, zero, suc, ◌+◌, ◌≤◌, ◌<◌}
use native.Mathlib.Omega.{arith}
use native.Mathlib.Nat.{add-zero, zero-add}
use native.Mathlib.Numerals.{add-one}
use mathlib.Core.List.{List, [], ◌∷◌}
use mathlib.Core.Path.{◌≡◌}
use lib.ListN.{length, get_or, drop, drop_of_length-le}
use lib.Seq.{drop-cons}
use Rattle.rules.specs.Kinds.{Kind, child_count}
use Rattle.rules.specs.Terms.{Term, root_kind, size}
use Rattle.rules.specs.FreeBounds.{free_bound}
use Rattle.rules.specs.Format.{Record}
use Rattle.terms.specs.Children.{kids, sizes, preorders}
use Rattle.terms.proofs.Children.{kids_sizes, kids_count}
use Rattle.terms.specs.Preorder.{There, At}
use Rattle.terms.specs.Measuring.{binders_over}
use Rattle.terms.proofs.Joined.{BoundedBy, bounded_by}
use Rattle.terms.proofs.Trees.{first_tree, later_trees}

-- Child j of t, and those after it.
unfoldable pub child : Term → ℕ → Term
child t j = get_or (kids t) j t

unfoldable pub after : Term → ℕ → List Term
after t j = drop j (kids t)

pub child_split : (t : Term) (j : ℕ) → j < child_count (root_kind t) → after t j ≡ child t j ∷ after t (j + 1)
unfolding child after
child_split t j l = rw (add-one j) (drop-cons (kids t) j t (omega (arith, kids_count t)))

pub child_low : (t : Term) (j : ℕ) → j < child_count (root_kind t) → free_bound (child t j) ≤ free_bound t + binders_over (root_kind t) j
unfolding child
child_low t j l = rw (zero-add j) at (go (free_bound t) (root_kind t) 0 (kids t) j (bounded_by t) (omega (arith, kids_count t)))
  where
    go : (b : ℕ) (k : Kind) (i : ℕ) (ts : List Term) (j : ℕ) → BoundedBy b k i ts → j < length ts → free_bound (get_or ts j t) ≤ b + binders_over k (i + j)
    go b k i [] j h l = absurd (omega arith)
    go b k i (u ∷ us) zero h l = rw (add-zero i) h.0
    go b k i (u ∷ us) (suc j) h l = let e : i + suc j ≡ suc i + j = omega arith in rw e (go b k (suc i) us j h.1 (omega arith))

-- The children from j on stand from `at` on, up to the end of the tree at src.
pub record Row (rs : List Record) (src at j : ℕ) (t : Term) : Type 0 where
  pub there : There rs at (preorders (after t j))
  pub from : at + sizes (after t j) ≡ src + size t
  pub begun : src < at

pub row_starts : (rs : List Record) (src : ℕ) (t : Term) → There rs (src + 1) (preorders (kids t)) → Row rs src (src + 1) 0 t
unfolding after
row_starts rs src t h = record { there = h; from = omega (arith, kids_sizes t); begun = omega arith }

-- The next child, and the row after it.
pub record Turn (rs : List Record) (src at j : ℕ) (t : Term) : Type 0 where
  pub there : At rs at (child t j)
  pub next : Row rs src (at + size (child t j)) (j + 1) t

pub row_turn : (rs : List Record) (src at j : ℕ) (t : Term) → Row rs src at j t → j < child_count (root_kind t) → Turn rs src at j t
unfolding sizes
row_turn rs src at j t r l =
    let h : There rs at (preorders (child t j ∷ after t (j + 1))) = rw (child_split t j l) at r.there in
    let e : at + (size (child t j) + sizes (after t (j + 1))) ≡ src + size t = rw (child_split t j l) at r.from in
    record {
      there = first_tree rs at (child t j) (after t (j + 1)) h;
      next = record { there = later_trees rs at (child t j) (after t (j + 1)) h; from = omega arith; begun = omega (arith, r.begun) };
    }

pub none_after : (t : Term) (j : ℕ) → child_count (root_kind t) ≤ j → after t j ≡ []
unfolding after
none_after t j l = drop_of_length-le (kids t) {i = j} (omega (arith, kids_count t))
