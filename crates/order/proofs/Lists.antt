-- Lists whose elements all have a property, or stand in a relation one by one.
use mathlib.Core.List.{List, [], ◌∷◌, ◌++◌}
use Rattle.rules.specs.Lists.{All}

pub all_with : {A : Type 0} {P : A → Type 0} (Q : A → Type 0) (xs : List A) → ((x : A) → P x → Q x) → All P xs → All Q xs
all_with Q [] g h = tt
all_with Q (x ∷ xs) g (h, k) = (g x h, all_with Q xs g k)

pub all_split : {A : Type 0} (P : A → Type 0) (xs ys : List A) → All P (xs ++ ys) → All P xs × All P ys
all_split P [] ys h = (tt, h)
all_split P (x ∷ xs) ys (h, k) = let (i, j) = all_split P xs ys k in ((h, i), j)

-- R between each element of a list and that of another.
pub data Each (A B : Type 0) (R : A → B → Type 0) : List A → List B → Type 0 where
  nothing : Each A B R [] []
  also : {x : A} {y : B} {xs : List A} {ys : List B} → R x y → Each A B R xs ys → Each A B R (x ∷ xs) (y ∷ ys)

pub each_append : {A B : Type 0} {R : A → B → Type 0} {xs xs' : List A} {ys ys' : List B} → Each A B R xs ys → Each A B R xs' ys' → Each A B R (xs ++ xs') (ys ++ ys')
each_append nothing k = k
each_append (also r h) k = also r (each_append h k)
