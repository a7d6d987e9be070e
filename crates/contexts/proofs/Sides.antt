-- A frame's tree and a whole term, around the hole: how many records they have, and the preorder of a frame's tree.
use Prim.Native.Nat.{◌+◌}
use native.Mathlib.Omega.{arith}
use mathlib.Core.List.{[], ◌∷◌, ◌++◌}
use mathlib.Core.Path.{◌≡◌, refl, ap, ◌∙◌}
use Rattle.rules.specs.Terms.{Term, size}
use Rattle.terms.specs.Preorder.{head, preorder}
use Rattle.terms.specs.Children.{kids, sizes, preorders}
use Rattle.terms.proofs.Children.{sizes_append, kids_sizes}
use Rattle.terms.proofs.Trees.{preorder_kids, preorders_append}
use Rattle.contexts.specs.Contexts.{Frame, only, first, second, first₃, second₃, third₃, fill, children_before, children_after, Context, plug, left_size}
use Rattle.contexts.specs.Sides.{right_size}

-- The children of a frame's tree: those before the hole, what fills it, and those after it.
pub kids_filled : (F : Frame) (t : Term) → kids (fill F t) ≡ children_before F ++ (t ∷ children_after F)
unfolding kids
kids_filled (only k f) t = refl
kids_filled (first k f u) t = refl
kids_filled (second k f s) t = refl
kids_filled (first₃ k f u v) t = refl
kids_filled (second₃ k f s v) t = refl
kids_filled (third₃ k f s u) t = refl

-- How many records a frame's tree and a whole term have.
pub size_filled : (F : Frame) (t : Term) → size (fill F t) ≡ 1 + sizes (children_before F) + (size t + sizes (children_after F))
unfolding sizes
size_filled F t = omega (arith, kids_sizes (fill F t), ap sizes (kids_filled F t), sizes_append (children_before F) (t ∷ children_after F))

pub size_plugged : (C : Context) (t : Term) → size (plug C t) ≡ left_size C + (size t + right_size C)
unfolding plug left_size right_size
size_plugged [] t = omega arith
size_plugged (F ∷ C) t = omega (arith, size_plugged C (fill F t), size_filled F t)

-- The preorder of the children of a frame's tree, and of the tree.
pub preorders_filled : (F : Frame) (t : Term) → preorders (kids (fill F t)) ≡ preorders (children_before F) ++ (preorder t ++ preorders (children_after F))
unfolding preorders
preorders_filled F t = ap preorders (kids_filled F t) ∙ preorders_append (children_before F) (t ∷ children_after F)

pub preorder_filled : (F : Frame) (t : Term) → preorder (fill F t) ≡ head (fill F t) ∷ (preorders (children_before F) ++ (preorder t ++ preorders (children_after F)))
preorder_filled F t = preorder_kids (fill F t) ∙ ap (λ l. head (fill F t) ∷ l) (preorders_filled F t)
