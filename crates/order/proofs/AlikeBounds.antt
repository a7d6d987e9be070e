-- Alike terms have the same free bound, where their records' own indices reach as far. Assumes nothing.
use Prim.Native.Nat.{ℕ, ◌-◌, max}
use native.Mathlib.Omega.{arith}
use mathlib.Core.Path.{◌≡◌, refl}
use lib.ListN.{length}
use Rattle.rules.specs.Kinds.{Kind, leaf₀, unary₁, binary₂, ternary₃}
use Rattle.rules.specs.Terms.{Fields, Term}
use Rattle.rules.specs.Binders.{over_first, over_second}
use Rattle.rules.specs.FreeBounds.{own_bound, root_bound, free_bound}
use Rattle.order.specs.Alike.{Alike, leaves, unaries, binaries, ternaries}
use Rattle.rules.proofs.KindTable.{each_kind}

-- How many variables a record binds depends on its kind only.
over_first_lem : (f g : Fields) (k : Kind) → length (over_first k f) ≡ length (over_first k g)
over_first_lem f g = each_kind (λ k. length (over_first k f) ≡ length (over_first k g)) (omega arith)

over_second_lem : (f g : Fields) (k : Kind) → length (over_second k f) ≡ length (over_second k g)
over_second_lem f g = each_kind (λ k. length (over_second k f) ≡ length (over_second k g)) (omega arith)

root_alike : (k : Kind) (f g : Fields) {x x' y y' z z' : ℕ} → own_bound k f ≡ own_bound k g → x ≡ x' → y ≡ y' → z ≡ z' → root_bound k f x y z ≡ root_bound k g x' y' z'
root_alike k f g o p q r = λ i. max (o i) (max (p i - over_first_lem f g k i) (max (q i - over_second_lem f g k i) (r i)))

-- A child that isn't there.
no_child : ◌≡◌ {A = ℕ} 0 0
no_child = refl

module _ {R : Kind → Fields → Fields → Type 0} (own : (k : Kind) (f g : Fields) → R k f g → own_bound k f ≡ own_bound k g) where
  pub bound_alike : {t t' : Term} → Alike R t t' → free_bound t ≡ free_bound t'
  unfolding free_bound
  bound_alike (leaves k f g r) = root_alike (leaf₀ k) f g (own (leaf₀ k) f g r) no_child no_child no_child
  bound_alike (unaries k f g r h) = root_alike (unary₁ k) f g (own (unary₁ k) f g r) (bound_alike h) no_child no_child
  bound_alike (binaries k f g r h i) = root_alike (binary₂ k) f g (own (binary₂ k) f g r) (bound_alike h) (bound_alike i) no_child
  bound_alike (ternaries k f g r h i j) = root_alike (ternary₃ k) f g (own (ternary₃ k) f g r) (bound_alike h) (bound_alike i) (bound_alike j)
