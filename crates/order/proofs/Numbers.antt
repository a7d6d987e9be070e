-- Numbers given one after another: two things have two numbers, and a number once given stays.
use Prim.Native.Nat.{suc, ◌≤◌, ◌<◌}
use native.Mathlib.Omega.{arith}
use mathlib.Core.List.{List, [], ◌∷◌, map}
use mathlib.Core.Bool.{Bool, true, false}
use mathlib.Core.Path.{◌≡◌, refl, sym, ◌∙◌, subst}
use lib.Dec.{T, T_not}
use lib.ListN.{length, length-map}
use Rattle.rules.specs.Lists.{All}
use Rattle.rules.proofs.General.{tested}
use Rattle.order.specs.Numbers.{Equality, number_among}

-- What a test of equality decides.
pub decide : {A : Type 0} (test : Equality A) (x y : A) → Dec (x ≡ y)
decide test x y = go (test.same x y) (test.equal x y) (λ e. subst (λ z. T (test.same x z)) e (test.itself x))
  where
    go : (b : Bool) → (T b → x ≡ y) → (x ≡ y → T b) → Dec (x ≡ y)
    go true h k = yes (h tt)
    go false h k = no k

module _ {A : Type 0} (test : Equality A) where
  abbrev pub Has : List A → A → Type 0
  Has xs x = 0 < number_among test x xs

  pub number_none : (x : A) → number_among test x [] ≡ 0
  unfolding number_among
  number_none x = refl

  pub number_here : (x y : A) (ys : List A) → x ≡ y → number_among test x (y ∷ ys) ≡ suc (length ys)
  unfolding number_among
  number_here x y ys e = tested (λ n. n ≡ suc (length ys)) (test.same x y) _ _ (λ _. refl) (λ n. absurd (T_not (test.same x y) n (subst (λ z. T (test.same x z)) e (test.itself x))))

  pub number_other : (x y : A) (ys : List A) → (x ≡ y → ⊥) → number_among test x (y ∷ ys) ≡ number_among test x ys
  unfolding number_among
  number_other x y ys n = tested (λ m. m ≡ number_among test x ys) (test.same x y) _ _ (λ t. absurd (n (test.equal x y t))) (λ _. refl)

  pub number_bound : (x : A) (xs : List A) → number_among test x xs ≤ length xs
  unfolding number_among
  number_bound x [] = omega arith
  number_bound x (y ∷ ys) = tested (λ n. n ≤ suc (length ys)) (test.same x y) _ _ (λ _. omega arith) (λ _. omega (arith, number_bound x ys))

  pub number_injective : (x y : A) (zs : List A) → Has zs x → number_among test x zs ≡ number_among test y zs → x ≡ y
  number_injective x y [] h e = absurd (omega (arith, number_none x))
  number_injective x y (z ∷ zs) h e = elim (decide test x z) [
    | yes p ↦ elim (decide test y z) [ yes q ↦ p ∙ sym q | no q ↦ absurd (omega (arith, number_here x z zs p, number_other y z zs q, number_bound y zs)) ]
    | no p ↦ elim (decide test y z) [
      | yes q ↦ absurd (omega (arith, number_here y z zs q, number_other x z zs p, number_bound x zs))
      | no q ↦ number_injective x y zs (omega (arith, number_other x z zs p)) (omega (arith, number_other x z zs p, number_other y z zs q))
    ]
  ]

  -- What has a number keeps it when something new gets one.
  abbrev pub Kept : List A → List A → Type 0
  Kept xs ys = (x : A) → Has xs x → number_among test x ys ≡ number_among test x xs

  pub kept_new : (x : A) (xs : List A) → number_among test x xs ≡ 0 → Kept xs (x ∷ xs)
  kept_new x xs n y h = number_other y x xs (λ e. omega (arith, rw e at h))

  pub kept_kept : (xs ys zs : List A) → Kept xs ys → Kept ys zs → Kept xs zs
  kept_kept xs ys zs h k x i = k x (omega (arith, h x i)) ∙ h x i

  pub kept_has : (xs ys : List A) (x : A) → Kept xs ys → Has xs x → Has ys x
  kept_has xs ys x k h = omega (arith, k x h)

-- The number of x is that of its image, where no other has the same image.
pub number_map : {A B : Type 0} (test : Equality A) (test' : Equality B) (g : A → B) (x : A) (ys : List A) → All (λ y. g x ≡ g y → x ≡ y) ys
    → number_among test x ys ≡ number_among test' (g x) (map g ys)
number_map test test' g x [] h = number_none test x ∙ sym (number_none test' (g x))
number_map test test' g x (y ∷ ys) (h, k) = elim (decide test x y) [
  | yes e ↦ omega (arith, number_here test x y ys e, number_here test' (g x) (g y) (map g ys) (λ i. g (e i)), length-map ys g)
  | no e ↦ omega (arith, number_other test x y ys e, number_other test' (g x) (g y) (map g ys) (λ p. e (h p)), number_map test test' g x ys k)
]
