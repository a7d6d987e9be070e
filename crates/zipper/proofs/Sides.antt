-- The sides of the hole: how many records stand on its left.
use native.Mathlib.Omega.{arith}
use mathlib.Core.List.{[], ◌∷◌}
use mathlib.Core.Path.{◌≡◌, refl}
use lib.ListN.{length, length-append}
use Rattle.contexts.specs.Contexts.{children_before, Context, left_size}
use Rattle.contexts.specs.Sides.{top_place}
use Rattle.terms.specs.Children.{preorders}
use Rattle.zipper.specs.Layout.{chained, left_records}
use Rattle.terms.proofs.Trees.{length_preorders}

pub length_left : (C : Context) → length (left_records C) ≡ left_size C
unfolding left_records left_size
length_left [] = refl
length_left (F ∷ C) = omega (arith, length-append (left_records C) (chained F (top_place C) ∷ preorders (children_before F)), length_preorders (children_before F), length_left C)
