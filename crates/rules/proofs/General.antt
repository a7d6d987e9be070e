-- Words of proof on tests, options and lists that the theorems share.
use Prim.Native.Nat.{ℕ, zero, suc}
use lib.ListN.{length}
use mathlib.Core.List.{List, [], ◌∷◌, ◌++◌}
use mathlib.Core.Bool.{Bool, true, false, not}
use mathlib.Core.Option.{Option, none, some}
use mathlib.Core.Path.{◌≡◌, refl, ap}
use lib.Dec.{T}
use Rattle.rules.specs.Lists.{pick, All, mapped, listed}

-- A list of proofs.
infixr 20 ◌&◌
abbrev pub ◌&◌ : {A B : Type 0} → A → B → A × B
a & b = (a, b)

pub all_append : {A : Type 0} (P : A → Type 0) (xs ys : List A) → All P xs → All P ys → All P (xs ++ ys)
all_append P [] ys h k = k
all_append P (x ∷ xs) ys h k = (h.0, all_append P xs ys h.1 k)

pub is_true : (b : Bool) → T b → b ≡ true
is_true true h = refl
is_true false h = absurd h

pub is_false : (b : Bool) → (T b → ⊥) → b ≡ false
is_false true h = absurd (h tt)
is_false false h = refl

-- The branches of a test and of an option, with what is known in each.
pub picked : {A : Type 0} (P : A → Type 0) (b : Bool) {x y : A} → (T b → P x) → (T (not b) → P y) → P (pick b x y)
picked P true f g = f tt
picked P false f g = g tt

pub tested : {A : Type 0} (P : A → Type 0) (b : Bool) (x y : A) → (T b → P x) → (T (not b) → P y) → P (elim b [ true ↦ x | false ↦ y ])
tested P true x y h k = h tt
tested P false x y h k = k tt

-- P of what the option gives, if it gives something.
abbrev pub Gives : {A : Type 0} → (A → Type 0) → Option A → Type 0
Gives P none = Unit {0}
Gives P (some x) = P x

pub gives : {A : Type 0} {P : A → Type 0} (Q : A → Type 0) → ((x : A) → P x → Q x) → (o : Option A) → Gives P o → Gives Q o
gives Q i none h = tt
gives Q i (some x) h = i x h

pub mapped_gives : {A B : Type 0} {P : A → Type 0} (Q : B → Type 0) (k : A → B) → ((x : A) → P x → Q (k x)) → (o : Option A) → Gives P o → Gives Q (mapped k o)
mapped_gives Q k i none h = tt
mapped_gives Q k i (some x) h = i x h

pub tested_option : {A B : Type 0} (P : B → Type 0) (o : Option A) (x : B) (g : A → B) → (o ≡ none → P x) → ((u : A) → o ≡ some u → P (g u)) → P (elim o [ none ↦ x | some u ↦ g u ])
tested_option P none x g h k = h refl
tested_option P (some u) x g h k = k u refl

-- A list is as long as it is asked to be.
pub length_listed : {A : Type 0} (f : ℕ → A) (from n : ℕ) → length (listed f from n) ≡ n
unfolding listed
length_listed f from zero = refl
length_listed f from (suc n) = ap suc (length_listed f (suc from) n)
