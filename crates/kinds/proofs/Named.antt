-- The table of the kinds' numbers, read from a number.
use Prim.Native.Nat.{ℕ, zero, suc, ◌+◌, ◌≤◌, ◌<◌}
use native.Mathlib.Omega.{arith}
use native.Mathlib.Decide.{dec_lt}
use mathlib.Core.List.{List, [], ◌∷◌}
use mathlib.Core.Path.{◌≡◌, refl, sym, subst}
use mathlib.Core.Bool.{true, false}
use lib.Dec.{T, eqb, eqb→eq}
use Rattle.std.specs.Prelude.{nat_lt}
use Rattle.rules.specs.Lists.{All, listed}
use Rattle.rules.specs.Kinds.{number, splice, Kind, leaf₀, unary₁, binary₂, ternary₃, child_count, kind_number, highest_kind, kinds, numbered, kind_of}
use Rattle.kinds.specs.Named.{IsKind, is_match}
use Rattle.rules.proofs.General.{picked}
use Rattle.rules.proofs.KindTable.{kind_range, kind_back}

-- What holds of each of `count` numbers from `from` holds of any number between.
pub in_range : (P : ℕ → Type 0) (from count : ℕ) → All P (listed (λ i. i) from count) → (k : ℕ) → from ≤ k → k < from + count → P k
unfolding listed
in_range P from zero h k a b = absurd (omega arith)
in_range P from (suc count) (h, r) k a b = elim (dec_lt from k) [
  | yes l ↦ in_range P (suc from) count r k l (omega arith)
  | no l ↦ let e : k ≡ from = omega arith in rw e h
]

-- A number of the table is that of its kind.
pub number_back : (k : ℕ) → 1 ≤ k → k ≤ highest_kind → kind_number (kind_of k) ≡ k
unfolding kind_of numbered listed
number_back k a b = in_range (λ k. kind_number (kind_of k) ≡ k) 1 highest_kind (omega arith) k a (omega arith)

-- Another number stands for kind 1.
none_numbered : (n : ℕ) → ((k : Kind) → kind_number k ≡ n → ⊥) → (ks : List Kind) → numbered n ks ≡ leaf₀ number
unfolding numbered
none_numbered n h [] = refl
none_numbered n h (k ∷ ks) = picked (λ x. x ≡ leaf₀ number) (eqb (kind_number k) n) (λ t. absurd (h k (eqb→eq (kind_number k) n t))) (λ _. none_numbered n h ks)

pub unknown_kind : (n : ℕ) → (1 ≤ n → n ≤ highest_kind → ⊥) → kind_of n ≡ leaf₀ number
unfolding kind_of
unknown_kind n h = none_numbered n (λ k e. let (a, b) = kind_range k in h (omega arith) (omega arith)) kinds

pub named : (k : Kind) (n : ℕ) → n ≡ kind_number k → k ≡ kind_of n
named k n e = rw e (sym (kind_back k))

-- Any other number stands for kind 1.
pub otherwise : (n : ℕ) → (1 ≤ n → n ≤ 14 → ⊥) → leaf₀ number ≡ kind_of n
otherwise n h = sym (unknown_kind n h)

-- The numbers of matches are those above a splice's.
pub match_numbered : (n : ℕ) → IsKind n → nat_lt (kind_number (unary₁ splice)) n ≡ is_match (kind_of n)
unfolding kind_of numbered listed
match_numbered n (a, b) = in_range (λ k. nat_lt 8 k ≡ is_match (kind_of k)) 1 highest_kind
    (refl, (refl, (refl, (refl, (refl, (refl, (refl, (refl, (refl, (refl, (refl, (refl, (refl, (refl, tt))))))))))))))
    n a (omega arith)

-- Matches have three children, and the other kinds fewer.
pub match_children : (k : Kind) → is_match k ≡ true → child_count k ≡ 3
match_children (leaf₀ k) e = absurd (subst T (sym e) tt)
match_children (unary₁ k) e = absurd (subst T (sym e) tt)
match_children (binary₂ k) e = absurd (subst T (sym e) tt)
match_children (ternary₃ k) e = refl

pub other_children : (k : Kind) → is_match k ≡ false → child_count k ≤ 2
other_children (leaf₀ k) e = omega arith
other_children (unary₁ k) e = omega arith
other_children (binary₂ k) e = omega arith
other_children (ternary₃ k) e = absurd (subst T e tt)
