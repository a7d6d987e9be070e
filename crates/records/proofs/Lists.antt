-- Facts of lists that no library has: a part of a front, and the list that `listed` makes. Assumes nothing.
use Prim.Native.Nat.{ℕ, zero, suc, ◌+◌, ◌-◌, ◌≤◌, ◌<◌}
use native.Mathlib.Nat.{add-zero, zero-add, suc-add, le_of_suc-le-suc, not-suc-le-zero}
use native.Mathlib.Omega.{arith}
use mathlib.Core.Path.{◌≡◌, refl, sym, ap, ap₂, ◌∙◌}
use mathlib.Core.List.{List, [], ◌∷◌}
use lib.ListN.{get_or, take, drop}
use lib.Seq.{take-nil, take-take, drop-drop}
use Rattle.rules.specs.Lists.{All, listed}

module _ {A : Type 0} where
  -- To take of what is left is to leave of what is taken.
  take_of_drop : (n m : ℕ) (l : List A) → take m (drop n l) ≡ drop n (take (n + m) l)
  take_of_drop zero m l = ap (λ k. take k l) (sym (zero-add m))
  take_of_drop (suc n) m [] = take-nil m ∙ ap (λ k. drop (suc n) (take k [])) (sym (suc-add n m))
  take_of_drop (suc n) m (x ∷ l) = take_of_drop n m l ∙ ap (λ k. drop (suc n) (take k (x ∷ l))) (sym (suc-add n m))

  -- A part that lies in a front of a list is that part of the list.
  pub part_of_front : (n m k : ℕ) (l : List A) → n + m ≤ k → take m (drop n (take k l)) ≡ take m (drop n l)
  part_of_front n m k l h = take_of_drop n m (take k l) ∙ ap (drop n) (take-take (n + m) k l h) ∙ sym (take_of_drop n m l)

  -- Lists that agree from one place on agree from every later place on.
  pub agree_beyond : (n m : ℕ) (l l' : List A) → n ≤ m → drop n l ≡ drop n l' → drop m l ≡ drop m l'
  agree_beyond n m l l' h e =
      let p : n + (m - n) ≡ m = omega arith in
      rw p at (sym (drop-drop (m - n) n l) ∙ ap (drop (m - n)) e ∙ drop-drop (m - n) n l')

module _ {A : Type 0} (f : ℕ → A) where
  -- `listed f from n` is f from, f (from + 1), .., n things.
  pub get_d_listed : (from n i : ℕ) (d : A) → i < n → get_or (listed f from n) i d ≡ f (from + i)
  unfolding listed
  get_d_listed from zero i d h = absurd (not-suc-le-zero h)
  get_d_listed from (suc n) zero d h = ap f (sym (add-zero from))
  get_d_listed from (suc n) (suc i) d h =
      let e : suc from + i ≡ from + suc i = omega arith in
      get_d_listed (suc from) n i d (le_of_suc-le-suc h) ∙ ap f e

  pub take_listed : (from n m : ℕ) → n ≤ m → take n (listed f from m) ≡ listed f from n
  unfolding listed
  take_listed from zero m h = refl
  take_listed from (suc n) zero h = absurd (not-suc-le-zero h)
  take_listed from (suc n) (suc m) h = ap (◌∷◌ (f from)) (take_listed (suc from) n m (le_of_suc-le-suc h))

  pub all_listed : (P : A → Type 0) → ((i : ℕ) → P (f i)) → (from n : ℕ) → All P (listed f from n)
  unfolding listed
  all_listed P h from zero = tt
  all_listed P h from (suc n) = (h from, all_listed P h (suc from) n)

  pub listed_same : (g : ℕ → A) (from n : ℕ) → ((i : ℕ) → i < from + n → f i ≡ g i) → listed f from n ≡ listed g from n
  unfolding listed
  listed_same g from zero h = refl
  listed_same g from (suc n) h = ap₂ ◌∷◌ (h from (omega arith)) (listed_same g (suc from) n (λ i l. h i (omega arith)))
