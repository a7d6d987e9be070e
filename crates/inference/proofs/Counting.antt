-- Numbers that go one to one into others are not more than those.
use Prim.Native.Nat.{ℕ, zero, suc, ◌+◌, ◌*◌, ◌≤◌, ◌<◌}
use native.Mathlib.Omega.{arith}
use native.Mathlib.Decide.{ℕ_discrete}
use mathlib.Core.Path.{◌≡◌, sym, ◌∙◌}
use lib.ListN.{length}
use Rattle.rules.specs.Lists.{total}
use Rattle.rules.specs.Types.{Table}
use Rattle.rules.specs.Check.{is}
use Rattle.rules.proofs.Sums.{is_same, is_other, total_ext, total_none, total_ones, total_at, total_swap}
use Rattle.rules.proofs.Tables.{entry_in}
use Rattle.inference.proofs.Growing.{Entries, has_kind}
use Rattle.inference.proofs.Renaming.{Into}

total_le : (f g : ℕ → ℕ) (from n : ℕ) → ((m : ℕ) → f m ≤ g m) → total f from n ≤ total g from n
unfolding total
total_le f g from zero h = omega arith
total_le f g from (suc n) h = omega (arith, h from, total_le f g (suc from) n h)

module _ (φ : ℕ → ℕ) (apart : (m n : ℕ) → φ m ≡ φ n → m ≡ n) where
  hit_once : (m from n : ℕ) → total (λ i. is (φ i) m * 1) from n ≤ 1
  unfolding total
  hit_once m from zero = omega arith
  hit_once m from (suc n) = elim (ℕ_discrete (φ from) m) [
    | yes e ↦
        let rest = total_none (λ i. is (φ i) m * 1) (suc from) n (λ i h. rw (is_other (φ i) m (λ d. omega (arith, apart i from (d ∙ sym e)))) (omega arith)) in
        rw e (omega (arith, is_same m))
    | no e ↦ omega (arith, is_other (φ from) m e, hit_once m (suc from) n)
  ]

  not_more : (a b : ℕ) → ((n : ℕ) → 1 ≤ n → n < 1 + a → (1 ≤ φ n) × (φ n ≤ b)) → a ≤ b
  not_more a b h =
      omega (
        arith,
        total_ones 1 a,
        total_ext (λ _. 1) (λ n. total (λ m. is (φ n) m * 1) 1 b) 1 a (λ n i j. sym (total_at (λ _. 1) (φ n) 1 b (h n i j).0 (omega (arith, (h n i j).1)))),
        total_swap (λ n m. is (φ n) m * 1) 1 a 1 b,
        total_le (λ m. total (λ n. is (φ n) m * 1) 1 a) (λ _. 1) 1 b (λ m. hit_once m 1 a),
        total_ones 1 b,
      )

-- A table that goes into B is no longer than B.
pub no_longer : (A B : Table) (φ : ℕ → ℕ) → Entries A → Into A B φ → length A ≤ length B
no_longer A B φ good into = not_more φ into.apart (length A) (length B) (λ n i j. entry_in B (φ n) (into.keeps n) (has_kind A good n (omega arith, omega arith)))
