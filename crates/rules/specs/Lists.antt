-- Words on lists and tests that the definitions share. Nothing here is of document 01.
use Rattle.std.specs.Prelude.{ℕ, zero, suc, ◌+◌, List, [], ◌∷◌, ◌++◌, Bool, true, false}
use Rattle.std.proofs.Math.Option.{Option, none, some}

-- x where the test holds, else y.
abbrev pub pick : {A : Type 0} → Bool → A → A → A
pick true x y = x
pick false x y = y

-- P of each element.
abbrev pub All : {A : Type 0} → (A → Type 0) → List A → Type 0
All P [] = Unit {0}
All P (x ∷ xs) = P x × All P xs

-- k of what there is, if there is something.
abbrev pub mapped : {A B : Type 0} → (A → B) → Option A → Option B
mapped k none = none
mapped k (some x) = some (k x)

-- f from, f (from + 1), .., `count` things.
unfoldable pub listed : {A : Type 0} → (ℕ → A) → ℕ → ℕ → List A
listed f from zero = []
listed f from (suc count) = f from ∷ listed f (suc from) count

-- f from + f (from + 1) + .., `count` numbers.
unfoldable pub total : (ℕ → ℕ) → ℕ → ℕ → ℕ
total f from zero = 0
total f from (suc count) = f from + total f (suc from) count

-- The bytes of each element, one after another.
unfoldable pub joined : {A : Type 0} → (A → List ℕ) → List A → List ℕ
joined f [] = []
joined f (x ∷ xs) = f x ++ joined f xs
