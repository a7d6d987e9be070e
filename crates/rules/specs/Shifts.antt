-- Shifting: the change of a tree whose indices move and whose variables stay variables. Raising is one, and so is a replacement in which no
-- variable gives way.
use Rattle.std.specs.Prelude.{ℕ, ◌+◌, ◌-◌, not, length, T, ltb}
use Rattle.rules.specs.Lists.{pick}
use Rattle.rules.specs.Kinds.{number, variable, Ternary, match_variable, match_shape, match}
use Rattle.rules.specs.Terms.{Fields, Term, leaf, unary, binary, ternary}
use Rattle.rules.specs.Binders.{binds₁, binds₃}
use Rattle.rules.specs.Indices.{Change, with_index, names_removed}

-- Next to d binders of the tree's own, `down` binders are removed and `up` are put there.
abbrev pub shifted_index : ℕ → ℕ → ℕ → ℕ → ℕ
shifted_index down up d i = pick (ltb i d) i (i - down + up)

abbrev pub shifting : ℕ → ℕ → Change
shifting down up = record { on_variable = λ d f. leaf variable (with_index f (shifted_index down up d f.a)); on_index = shifted_index down up }

-- P of each index of a tree, a variable's or one that a match of kind 10 names, with the number of the tree's own binders over it and d more.
abbrev pub OwnIndex : (ℕ → ℕ → Type 0) → ℕ → Ternary → Fields → Type 0
OwnIndex P d (match match_variable) f = P d f.a
OwnIndex P d (match (match_shape k)) f = Unit {0}

unfoldable pub EachIndex : (ℕ → ℕ → Type 0) → ℕ → Term → Type 0
EachIndex P d (leaf number f) = Unit {0}
EachIndex P d (leaf variable f) = P d f.a
EachIndex P d (unary k f t) = EachIndex P (length (binds₁ k f) + d) t
EachIndex P d (binary k f t u) = EachIndex P d t × EachIndex P d u
EachIndex P d (ternary k f t s e) = OwnIndex P d k f × EachIndex P d t × EachIndex P (length (binds₃ k f) + d) s × EachIndex P d e

-- No index of the tree names one of the m binders next to d of its own.
abbrev pub Unnamed : ℕ → ℕ → Term → Type 0
Unnamed m d t = EachIndex (λ d i. T (not (names_removed m d i))) d t
