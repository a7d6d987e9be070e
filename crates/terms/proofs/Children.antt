-- The children of a term's root, as a list: how many they are, and how many records they have.
use Prim.Native.Nat.{◌+◌, ◌≤◌}
use native.Mathlib.Omega.{arith}
use mathlib.Core.Path.{◌≡◌, refl}
use mathlib.Core.List.{List, [], ◌∷◌, ◌++◌}
use lib.ListN.{length}
use Rattle.rules.specs.Kinds.{child_count}
use Rattle.rules.specs.Terms.{Term, leaf, unary, binary, ternary, root_kind, size}
use Rattle.rules.proofs.Laid.{size_some}
unfoldable pub use Rattle.terms.specs.Children.{kids, sizes, preorders}

pub sizes_append : (ts us : List Term) → sizes (ts ++ us) ≡ sizes ts + sizes us
unfolding sizes
sizes_append [] us = omega arith
sizes_append (t ∷ ts) us = omega (arith, sizes_append ts us)

pub count_sizes : (ts : List Term) → length ts ≤ sizes ts
unfolding sizes
count_sizes [] = omega arith
count_sizes (t ∷ ts) = omega (arith, size_some t, count_sizes ts)

pub kids_count : (t : Term) → length (kids t) ≡ child_count (root_kind t)
unfolding kids
kids_count (leaf k f) = refl
kids_count (unary k f t) = refl
kids_count (binary k f t u) = refl
kids_count (ternary k f t s e) = refl

pub kids_sizes : (t : Term) → size t ≡ 1 + sizes (kids t)
unfolding kids sizes size
kids_sizes (leaf k f) = refl
kids_sizes (unary k f t) = omega arith
kids_sizes (binary k f t u) = omega arith
kids_sizes (ternary k f t s e) = omega arith
