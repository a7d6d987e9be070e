-- The records of a term around a hole, in preorder: how many stand on its right, and where the innermost frame's record stands.
use Rattle.std.specs.Prelude.{ℕ, ◌+◌, [], ◌∷◌}
use Rattle.terms.specs.Children.{sizes}
use Rattle.contexts.specs.Contexts.{children_after, Context, left_size}

-- How many records stand on the right.
unfoldable pub right_size : Context → ℕ
right_size [] = 0
right_size (F ∷ C) = sizes (children_after F) + right_size C

-- The place of the innermost frame's record, the whole term's root being at 0; 0 where there is no frame.
unfoldable pub top_place : Context → ℕ
top_place [] = 0
top_place (F ∷ C) = left_size C
