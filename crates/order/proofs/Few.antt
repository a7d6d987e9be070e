-- Different numbers from 1 to n are at most n.
use Prim.Native.Nat.{ℕ, zero, suc, ◌+◌, ◌*◌, ◌≤◌}
use native.Mathlib.Omega.{arith}
use native.Mathlib.Decide.{ℕ_discrete}
use mathlib.Core.List.{List, [], ◌∷◌}
use mathlib.Core.Path.{◌≡◌, refl, sym, ◌∙◌}
use lib.ListN.{length}
use Rattle.rules.specs.Lists.{All, total}
use Rattle.rules.specs.Check.{is}
use Rattle.rules.proofs.Sums.{is_same, is_other, total_ext, total_add, total_none, total_at}
use Rattle.order.specs.Numbers.{equality}
use Rattle.order.specs.Order.{new_number}
use Rattle.order.proofs.Numbers.{number_here, number_other}

-- None stands twice.
abbrev pub Different : List ℕ → Type 0
Different [] = Unit {0}
Different (x ∷ xs) = (new_number xs x ≡ 0) × Different xs

-- How often m stands in a list.
hits : List ℕ → ℕ → ℕ
hits [] m = 0
hits (x ∷ xs) m = is x m + hits xs m

missed : (xs : List ℕ) (m : ℕ) → new_number xs m ≡ 0 → hits xs m ≡ 0
unfolding hits
missed [] m e = refl
missed (x ∷ xs) m e = elim (ℕ_discrete m x) [
  | yes d ↦ absurd (omega (arith, number_here equality m x xs d))
  | no d ↦ omega (arith, is_other x m (λ p. d (sym p)), missed xs m (sym (number_other equality m x xs d) ∙ e))
]

once : (xs : List ℕ) (m : ℕ) → Different xs → hits xs m ≤ 1
unfolding hits
once [] m d = omega arith
once (x ∷ xs) m (n, d) = elim (ℕ_discrete x m) [
  | yes e ↦ rw (← e) (omega (arith, is_same x, missed xs x n))
  | no e ↦ omega (arith, is_other x m e, once xs m d)
]

total_few : (f : ℕ → ℕ) (from n : ℕ) → ((m : ℕ) → f m ≤ 1) → total f from n ≤ n
unfolding total
total_few f from zero h = omega arith
total_few f from (suc n) h = omega (arith, h from, total_few f (suc from) n h)

total_hits : (xs : List ℕ) (n : ℕ) → All (λ x. (1 ≤ x) × (x ≤ n)) xs → total (hits xs) 1 n ≡ length xs
unfolding hits
total_hits [] n h = total_none (λ m. 0) 1 n (λ m i. refl)
total_hits (x ∷ xs) n ((h, k), r) =
    let one : total (λ m. is x m) 1 n ≡ 1 = total_ext (λ m. is x m) (λ m. is x m * 1) 1 n (λ m _ _. omega arith) ∙ total_at (λ m. 1) x 1 n h (omega arith) in
    total_add (λ m. is x m) (hits xs) 1 n ∙ omega (arith, total_hits xs n r)

pub few : (xs : List ℕ) (n : ℕ) → All (λ x. (1 ≤ x) × (x ≤ n)) xs → Different xs → length xs ≤ n
few xs n h d = omega (arith, total_hits xs n h, total_few (hits xs) 1 n (λ m. once xs m d))
