-- Sums over numbers, and counting one thing in two ways.
use Prim.Native.Nat.{ℕ, zero, suc, ◌+◌, ◌*◌, ◌≤◌, ◌<◌}
use native.Mathlib.Omega.{arith}
use native.Mathlib.Decide.{dec_lt, ℕ_discrete}
use native.Mathlib.Nat.{add-mul}
use mathlib.Core.Path.{◌≡◌, refl, ap₂, sym, ◌∙◌}
use lib.Dec.{eqb, eqb→eq, eqb_refl}
use Rattle.rules.specs.Lists.{total}
use Rattle.rules.specs.Check.{is}
use Rattle.rules.proofs.General.{is_true, is_false}

pub is_same : (m : ℕ) → is m m ≡ 1
is_same m = rw (is_true (eqb m m) (eqb_refl m))

pub is_other : (m n : ℕ) → (m ≡ n → ⊥) → is m n ≡ 0
is_other m n h = rw (is_false (eqb m n) (λ t. h (eqb→eq m n t)))

pub is_flip : (m n : ℕ) → is m n ≡ is n m
is_flip m n = elim (ℕ_discrete m n) [
  | yes e ↦ rw e
  | no h ↦ is_other m n h ∙ sym (is_other n m (λ e. h (sym e)))
]

pub total_ext : (f g : ℕ → ℕ) (from n : ℕ) → ((m : ℕ) → from ≤ m → m < from + n → f m ≡ g m) → total f from n ≡ total g from n
unfolding total
total_ext f g from zero h = refl
total_ext f g from (suc n) h = ap₂ ◌+◌ (h from (omega arith) (omega arith)) (total_ext f g (suc from) n (λ m i j. h m (omega arith) (omega arith)))

pub total_add : (f g : ℕ → ℕ) (from n : ℕ) → total (λ m. f m + g m) from n ≡ total f from n + total g from n
unfolding total
total_add f g from zero = refl
total_add f g from (suc n) = omega (arith, total_add f g (suc from) n)

pub total_split : (f : ℕ → ℕ) (from a b : ℕ) → total f from (a + b) ≡ total f from a + total f (from + a) b
unfolding total
total_split f from zero b = let p : 0 + b ≡ b = omega arith in let q : from + 0 ≡ from = omega arith in rw (p, q) (omega arith)
total_split f from (suc a) b =
    let p : suc a + b ≡ suc (a + b) = omega arith in
    let q : from + suc a ≡ suc from + a = omega arith in
    rw (p, q) (omega (arith, total_split f (suc from) a b))

-- The sum over a record and its children's trees.
pub split₁ : (f : ℕ → ℕ) (n a : ℕ) → total f n (1 + a) ≡ f n + total f (n + 1) a
unfolding total
split₁ f n a = omega (arith, total_split f n 1 a)

pub split₂ : (f : ℕ → ℕ) (n a b : ℕ) → total f n (1 + a + b) ≡ f n + total f (n + 1) a + total f (n + 1 + a) b
split₂ f n a b =
    let p : n + (1 + a) ≡ n + 1 + a = omega arith in
    omega (arith, rw p at (total_split f n (1 + a) b), split₁ f n a)

pub split₃ : (f : ℕ → ℕ) (n a b c : ℕ) → total f n (1 + a + b + c) ≡ f n + total f (n + 1) a + total f (n + 1 + a) b + total f (n + 1 + a + b) c
split₃ f n a b c =
    let p : n + (1 + a + b) ≡ n + 1 + a + b = omega arith in
    omega (arith, rw p at (total_split f n (1 + a + b) c), split₂ f n a b)

pub total_none : (f : ℕ → ℕ) (from n : ℕ) → ((m : ℕ) → from ≤ m → f m ≡ 0) → total f from n ≡ 0
unfolding total
total_none f from zero h = refl
total_none f from (suc n) h = omega (arith, h from (omega arith), total_none f (suc from) n (λ m i. h m (omega arith)))

pub total_zero_at : (f : ℕ → ℕ) (from n : ℕ) → total f from n ≡ 0 → (m : ℕ) → from ≤ m → m < from + n → f m ≡ 0
unfolding total
total_zero_at f from zero e m h k = absurd (omega arith)
total_zero_at f from (suc n) e m h k = elim (dec_lt from m) [
  | yes i ↦ total_zero_at f (suc from) n (omega arith) m i (omega arith)
  | no i ↦ let d : m ≡ from = omega arith in rw d (omega arith)
]

pub total_ones : (from n : ℕ) → total (λ m. 1) from n ≡ n
unfolding total
total_ones from zero = refl
total_ones from (suc n) = omega (arith, total_ones (suc from) n)

-- The sum at the one place l, and at a place before.
pub total_before : (g : ℕ → ℕ) (l from n : ℕ) → l < from → total (λ m. is l m * g m) from n ≡ 0
total_before g l from n h = total_none _ from n (λ m i. rw (is_other l m (λ e. omega arith)) (omega arith))

pub total_at : (g : ℕ → ℕ) (l from n : ℕ) → from ≤ l → l < from + n → total (λ m. is l m * g m) from n ≡ g l
unfolding total
total_at g l from zero h k = absurd (omega arith)
total_at g l from (suc n) h k = elim (dec_lt from l) [
  | yes i ↦ rw (is_other l from (λ e. omega arith)) (omega (arith, total_at g l (suc from) n i (omega arith)))
  | no i ↦ let e : from ≡ l = omega arith in rw (e, is_same l) (omega (arith, total_before g l (suc l) n (omega arith)))
]

total_times : (f : ℕ → ℕ) (c from n : ℕ) → total (λ m. f m * c) from n ≡ total f from n * c
unfolding total
total_times f c from zero = omega arith
total_times f c from (suc n) = rw add-mul (omega (arith, total_times f c (suc from) n))

pub total_swap : (h : ℕ → ℕ → ℕ) (a x b y : ℕ) → total (λ m. total (h m) b y) a x ≡ total (λ n. total (λ m. h m n) a x) b y
unfolding total
total_swap h a zero b y = sym (total_none _ b y (λ m i. refl))
total_swap h a (suc x) b y = rw (total_add (h a) (λ n. total (λ m. h m n) (suc a) x) b y) (omega (arith, total_swap h (suc a) x b y))

-- g summed over what a list of links names, and over the records, each as often as it is named.
pub counted_twice : (links : ℕ → ℕ) (g : ℕ → ℕ) (R : ℕ) → g 0 ≡ 0 → ((n : ℕ) → links n ≤ R)
    → total (λ n. g (links n)) 1 R ≡ total (λ m. total (λ n. is (links n) m) 1 R * g m) 1 R
counted_twice links g R z h =
    total_ext _ _ 1 R (λ n _ _. sym (at (links n) (h n)))
    ∙ (total_swap (λ n m. is (links n) m * g m) 1 R 1 R
    ∙ total_ext _ _ 1 R (λ m _ _. total_times (λ n. is (links n) m) (g m) 1 R))
  where
    at : (l : ℕ) → l ≤ R → total (λ m. is l m * g m) 1 R ≡ g l
    at zero k = total_before g 0 1 R (omega arith) ∙ sym z
    at (suc l) k = total_at g (suc l) 1 R (omega arith) (omega arith)
