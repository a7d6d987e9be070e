-- How large sums over the records of a tree get, and that they are the sizes of changed trees.
use Prim.Native.Nat.{ℕ, ◌+◌, ◌*◌, ◌≤◌}
use native.Mathlib.Nat.{mul-one, mul-add}
use native.Mathlib.Omega.{arith}
use mathlib.Core.Bool.{Bool, true, false}
use mathlib.Core.Path.{◌≡◌, refl}
use lib.Dec.{eqb}
use lib.ListN.{length}
use Rattle.rules.specs.Lists.{pick}
use Rattle.rules.specs.Kinds.{number, variable}
use Rattle.rules.specs.Terms.{Fields, Term, leaf, unary, binary, ternary, size}
use Rattle.rules.specs.Binders.{binds₁, binds₃}
use Rattle.rules.specs.Indices.{Change, changed, names_removed, summed}
use Rattle.rules.proofs.General.{picked}
use Rattle.sizes.specs.Counting.{weight}

-- No record counts more than b.
pub summed_most : (v : ℕ → ℕ → ℕ) (o b : ℕ) → o ≤ b → ((d i : ℕ) → v d i ≤ b) → (d : ℕ) (t : Term) → summed v o d t ≤ b * size t
unfolding summed size
summed_most v o b p q d (leaf number f) = omega (arith, mul-one b)
summed_most v o b p q d (leaf variable f) = omega (arith, mul-one b, q d f.a)
summed_most v o b p q d (unary k f t) = omega (arith, mul-one b, mul-add b 1 (size t), summed_most v o b p q (length (binds₁ k f) + d) t)
summed_most v o b p q d (binary k f t u) =
    omega (arith, mul-one b, mul-add b 1 (size t), mul-add b (1 + size t) (size u), summed_most v o b p q d t, summed_most v o b p q d u)
summed_most v o b p q d (ternary k f t s e) =
    omega (
      arith,
      mul-one b,
      mul-add b 1 (size t),
      mul-add b (1 + size t) (size s),
      mul-add b (1 + size t + size s) (size e),
      summed_most v o b p q d t,
      summed_most v o b p q (length (binds₃ k f) + d) s,
      summed_most v o b p q d e,
    )

-- Where each variable counts more, so does the tree.
pub summed_more : (v u : ℕ → ℕ → ℕ) (o : ℕ) → ((d i : ℕ) → v d i ≤ u d i) → (d : ℕ) (t : Term) → summed v o d t ≤ summed u o d t
unfolding summed
summed_more v u o h d (leaf number f) = omega arith
summed_more v u o h d (leaf variable f) = h d f.a
summed_more v u o h d (unary k f t) = omega (arith, summed_more v u o h (length (binds₁ k f) + d) t)
summed_more v u o h d (binary k f t w) = omega (arith, summed_more v u o h d t, summed_more v u o h d w)
summed_more v u o h d (ternary k f t s e) = omega (arith, summed_more v u o h d t, summed_more v u o h (length (binds₃ k f) + d) s, summed_more v u o h d e)

pub weight_more : (m n k n' k' : ℕ) → n ≤ n' → k ≤ k' → (d i : ℕ) → weight m n k d i ≤ weight m n' k' d i
weight_more m n k n' k' p q d i = picked_both (names_removed m d i) (picked_both (eqb i d) p q) (omega arith)
  where
    picked_both : (b : Bool) {x y x' y' : ℕ} → x ≤ x' → y ≤ y' → pick b x y ≤ pick b x' y'
    picked_both true p q = p
    picked_both false p q = q

pub weight_most : (m first second b : ℕ) → 1 ≤ b → first ≤ b → second ≤ b → (d i : ℕ) → weight m first second d i ≤ b
weight_most m first second b o p q d i =
    picked (λ n. n ≤ b) (names_removed m d i) (λ _. picked (λ n. n ≤ b) (eqb i d) (λ _. p) (λ _. q)) (λ _. o)

-- A change that makes of each variable a term of the size that is counted for it.
abbrev pub Weighs : Change → (ℕ → ℕ → ℕ) → Type 0
Weighs c v = (d : ℕ) (f : Fields) → size (c.on_variable d f) ≡ v d f.a

pub changed_size : (c : Change) (v : ℕ → ℕ → ℕ) → Weighs c v → (d : ℕ) (t : Term) → size (changed c d t) ≡ summed v 1 d t
unfolding changed size summed
changed_size c v h d (leaf number f) = refl
changed_size c v h d (leaf variable f) = h d f
changed_size c v h d (unary k f t) = omega (arith, changed_size c v h (length (binds₁ k f) + d) t)
changed_size c v h d (binary k f t u) = omega (arith, changed_size c v h d t, changed_size c v h d u)
changed_size c v h d (ternary k f t s e) = omega (arith, changed_size c v h d t, changed_size c v h (length (binds₃ k f) + d) s, changed_size c v h d e)
