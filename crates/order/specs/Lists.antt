-- A word on lists that crate rules' `Lists` lacks.
use Rattle.std.specs.Prelude.{List, [], ◌∷◌, ◌⊎◌}

-- P of some element.
abbrev pub Any : {A : Type 0} → (A → Type 0) → List A → Type 0
Any P [] = ⊥
Any P (x ∷ xs) = P x ⊎ Any P xs
