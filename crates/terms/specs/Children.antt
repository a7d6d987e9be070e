-- The children of a term's root, as a list, and trees that stand one after another.
use Rattle.std.specs.Prelude.{ℕ, ◌+◌, List, [], ◌∷◌, ◌++◌}
use Rattle.rules.specs.Terms.{Term, leaf, unary, binary, ternary, size}
use Rattle.rules.specs.Format.{Record}
use Rattle.terms.specs.Preorder.{preorder}

-- The children of a term's root.
unfoldable pub kids : Term → List Term
kids (leaf k f) = []
kids (unary k f t) = t ∷ []
kids (binary k f t u) = t ∷ u ∷ []
kids (ternary k f t s e) = t ∷ s ∷ e ∷ []

-- How many records trees have, and which.
unfoldable pub sizes : List Term → ℕ
sizes [] = 0
sizes (t ∷ ts) = size t + sizes ts

unfoldable pub preorders : List Term → List Record
preorders [] = []
preorders (t ∷ ts) = preorder t ++ preorders ts
