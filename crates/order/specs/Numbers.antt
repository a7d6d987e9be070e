-- Numbers given one after another, words of our own: a list, the latest first, holds what has a number.
use Rattle.std.specs.Prelude.{ℕ, suc, Bool, true, false, List, [], ◌∷◌, ◌≡◌, T, eqb, length}
use Rattle.std.proofs.Common.{eqb→eq}
use Rattle.std.proofs.Math.Dec.{eqb_refl}

-- A test of equality.
pub record Equality (A : Type 0) : Type 0 where
  pub same : A → A → Bool
  pub equal : (x y : A) → T (same x y) → x ≡ y
  pub itself : (x : A) → T (same x x)

abbrev pub equality : Equality ℕ
equality = record { same = eqb; equal = eqb→eq; itself = eqb_refl }

-- The number of x, counted from 1: 0 where it has none.
unfoldable pub number_among : {A : Type 0} → Equality A → A → List A → ℕ
number_among test x [] = 0
number_among test x (y ∷ ys) = elim (test.same x y) [ true ↦ suc (length ys) | false ↦ number_among test x ys ]
