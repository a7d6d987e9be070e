-- Sums over the records of a tree: by its root and its children, and of a tree without an index that counts.
use Prim.Native.Nat.{ℕ, suc, ◌+◌, ◌*◌, ◌≤◌, ◌<◌}
use native.Mathlib.Nat.{add_comm, add-zero, zero-mul, mul-one, mul-add}
use native.Mathlib.Numerals.{add-one}
use native.Mathlib.Omega.{arith}
use mathlib.Core.List.{List, [], ◌∷◌}
use mathlib.Core.Path.{◌≡◌, refl, sym, ◌∙◌}
use borrow.Author.Tests.{lt-ltb}
use lib.ListN.{length}
use Rattle.rules.specs.Kinds.{number, variable, Kind, unary₁, ternary₃, child_count}
use Rattle.rules.specs.Terms.{Fields, Term, leaf, unary, binary, ternary, root_kind, size}
use Rattle.rules.specs.Binders.{binds₁, binds₃, binders_first, binders_second}
use Rattle.rules.specs.FreeBounds.{free_bound}
use Rattle.rules.specs.Indices.{summed, gives, gave_way}
use Rattle.rules.proofs.FreeBounds.{variable_low, child_low, both_low, parts_low}
use Rattle.terms.specs.Children.{kids}
use Rattle.terms.specs.Measuring.{binders_over}
use Rattle.terms.proofs.Joined.{first_over, second_over}
use Rattle.copies.proofs.Rows.{child, after, child_split, none_after}

-- The sums of the children from child j on.
unfoldable pub summed_from : (ℕ → ℕ → ℕ) → ℕ → ℕ → Kind → ℕ → List Term → ℕ
summed_from v o d k j [] = 0
summed_from v o d k j (t ∷ ts) = summed v o (d + binders_over k j) t + summed_from v o d k (suc j) ts

module _ (v : ℕ → ℕ → ℕ) (o : ℕ) where
  -- A root that counts as any other record does.
  root_summed : (d : ℕ) (t : Term) → ((f : Fields) → t ≡ leaf variable f → v d f.a ≡ o) → summed v o d t ≡ o + summed_from v o d (root_kind t) 0 (kids t)
  unfolding summed kids summed_from
  root_summed d (leaf number f) h = omega arith
  root_summed d (leaf variable f) h = omega (arith, h f refl)
  root_summed d (unary k f t) h = rw (first_over f (unary₁ k), add_comm (binders_first (unary₁ k)) d) (omega arith)
  root_summed d (binary k f t u) h = rw (add-zero d) (omega arith)
  root_summed d (ternary k f t s e) h = rw (second_over f (ternary₃ k), add_comm (binders_second (ternary₃ k)) d, add-zero d) (omega arith)

  -- Where no index below d counts otherwise, each record of a tree with so low a bound counts the same.
  pub low_summed : ((d i : ℕ) → i < d → v d i ≡ o) → (d : ℕ) (t : Term) → free_bound t ≤ d → summed v o d t ≡ o * size t
  unfolding summed size
  low_summed h d (leaf number f) b = sym (mul-one o)
  low_summed h d (leaf variable f) b = h d f.a (variable_low d f b) ∙ sym (mul-one o)
  low_summed h d (unary k f t) b = omega (arith, mul-one o, mul-add o 1 (size t), low_summed h (length (binds₁ k f) + d) t (child_low d k f t b))
  low_summed h d (binary k f t u) b =
      let (p, q) = both_low d k f t u b in
      omega (arith, mul-one o, mul-add o 1 (size t), mul-add o (1 + size t) (size u), low_summed h d t p, low_summed h d u q)
  low_summed h d (ternary k f t s e) b =
      let (_, p, q, r) = parts_low d k f t s e b in
      omega (
        arith,
        mul-one o,
        mul-add o 1 (size t),
        mul-add o (1 + size t) (size s),
        mul-add o (1 + size t + size s) (size e),
        low_summed h d t p,
        low_summed h (length (binds₃ k f) + d) s q,
        low_summed h d e r,
      )

-- A tree whose indices don't reach beyond its d binders is moved as a block: no variable gives way in it.
pub block_gives_none : (m d : ℕ) (t : Term) → free_bound t ≤ d → gave_way m d t ≡ 0
unfolding gave_way
block_gives_none m d t b = low_summed (gives m) 0 (λ d i l. rw (lt-ltb i d l)) d t b ∙ zero-mul (size t)

-- n is counted of each tree t that D says may be read, before its child j is counted.
pub record Adding (D : Term → Type 0) (v : ℕ → ℕ → ℕ) (o d j n : ℕ) : Type 0 where
  pub all : (t : Term) → D t → n + summed_from v o d (root_kind t) j (after t j) ≡ summed v o d t

module _ (D : Term → Type 0) (v : ℕ → ℕ → ℕ) (o d : ℕ) where
  pub adding_starts : ((t : Term) → D t → (f : Fields) → t ≡ leaf variable f → v d f.a ≡ o) → Adding D v o d 0 o
  unfolding after
  adding_starts h = record { all = λ t q. sym (root_summed v o d t (h t q)) }

  module _ (j n : ℕ) (a : Adding D v o d j n) where
    module _ (m : ℕ) (c : (t : Term) → D t → (j < child_count (root_kind t)) × (m ≡ summed v o (d + binders_over (root_kind t) j) (child t j))) where
      added : (t : Term) → D t → n + m + summed_from v o d (root_kind t) (j + 1) (after t (j + 1)) ≡ summed v o d t
      unfolding summed_from
      added t q =
          let (l, e) = c t q in
          let p : n + (summed v o (d + binders_over (root_kind t) j) (child t j) + summed_from v o d (root_kind t) (j + 1) (after t (j + 1))) ≡ summed v o d t =
          rw (add-one j) (rw (child_split t j l, add-one j) at (a.all t q)) in
          omega arith

      pub adding_next : Adding D v o d (j + 1) (n + m)
      adding_next = record { all = added }

      pub adding_most : (t : Term) → D t → n + m ≤ summed v o d t
      adding_most t q = omega (arith, added t q)

    pub adding_ends : (t : Term) → D t → child_count (root_kind t) ≤ j → n ≡ summed v o d t
    unfolding summed_from
    adding_ends t q l = let e : n + 0 ≡ summed v o d t = rw (none_after t j l) at (a.all t q) in omega arith
