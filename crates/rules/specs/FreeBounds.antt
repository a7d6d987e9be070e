-- How far the free indices of a tree reach. "An index counts binders outward from 0": those that a record binds over a child are not free in it.
use Rattle.std.specs.Prelude.{ℕ, ◌+◌, ◌-◌, max, length}
use Rattle.rules.specs.Kinds.{number, variable, match_variable, match_shape, match, Kind, leaf₀, unary₁, binary₂, ternary₃}
use Rattle.rules.specs.Terms.{Fields, Term, leaf, unary, binary, ternary}
use Rattle.rules.specs.Binders.{over_first, over_second}

-- What a record's own index adds, where its kind has one.
abbrev pub own_bound : Kind → Fields → ℕ
own_bound (leaf₀ number) f = 0
own_bound (leaf₀ variable) f = f.a + 1
own_bound (unary₁ k) f = 0
own_bound (binary₂ k) f = 0
own_bound (ternary₃ (match match_variable)) f = f.a + 1
own_bound (ternary₃ (match (match_shape k))) f = 0

-- The bound of a tree from its root and the bounds x, y and z of its children, 0 for a child that isn't there.
abbrev pub root_bound : Kind → Fields → ℕ → ℕ → ℕ → ℕ
root_bound k f x y z = max (own_bound k f) (max (x - length (over_first k f)) (max (y - length (over_second k f)) z))

-- The free indices of a tree are below its bound, which is the highest of them and 1; that of a closed tree is 0.
unfoldable pub free_bound : Term → ℕ
free_bound (leaf k f) = root_bound (leaf₀ k) f 0 0 0
free_bound (unary k f t) = root_bound (unary₁ k) f (free_bound t) 0 0
free_bound (binary k f t u) = root_bound (binary₂ k) f (free_bound t) (free_bound u) 0
free_bound (ternary k f t s e) = root_bound (ternary₃ k) f (free_bound t) (free_bound s) (free_bound e)
