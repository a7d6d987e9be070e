-- Terms whose types are cleared: their size, and a root over its children.
use native.Mathlib.Omega.{arith}
use mathlib.Core.Path.{◌≡◌, refl}
use Rattle.rules.specs.Kinds.{Kind, leaf₀, unary₁, binary₂, ternary₃}
use Rattle.rules.specs.Terms.{Fields, Term, leaf, unary, binary, ternary, size}
use Rattle.rules.specs.Links.{node}
use Rattle.inference.specs.Inference.{retyped, cleared}

pub size_cleared : (t : Term) → size (cleared t) ≡ size t
unfolding size cleared
size_cleared (leaf k f) = refl
size_cleared (unary k f t) = omega (arith, size_cleared t)
size_cleared (binary k f t u) = omega (arith, size_cleared t, size_cleared u)
size_cleared (ternary k f t s e) = omega (arith, size_cleared t, size_cleared s, size_cleared e)

-- A record's cleared term, from its children's.
pub cleared_node : (k : Kind) (f : Fields) (c s e : Term) → cleared (node k f c s e) ≡ node k (retyped 0 f) (cleared c) (cleared s) (cleared e)
unfolding cleared
cleared_node (leaf₀ k) f c s e = refl
cleared_node (unary₁ k) f c s e = refl
cleared_node (binary₂ k) f c s e = refl
cleared_node (ternary₃ k) f c s e = refl
