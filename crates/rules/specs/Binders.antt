-- What a record binds: "A function binds over its child at its own level. Kinds 12 to 14 bind one level-0 variable over success only;
-- kind 11 binds two there, a then b, so b is index 0 and a is index 1. An index counts binders outward from 0."
use Rattle.std.specs.Prelude.{ℕ, List, [], ◌∷◌, length}
use Rattle.rules.specs.Kinds.{Unary, function, fix, lift, quote, splice, Ternary, match_variable, match_shape, match_number, match_application, match_lift, match_function, match_fix, Kind, leaf₀, unary₁, binary₂, ternary₃, match}
use Rattle.rules.specs.Terms.{Fields, only_type}

-- The types of the variables bound over the child of a kind with one child, and over a match's success: index 0 first.
abbrev pub binds₁ : Unary → Fields → List ℕ
binds₁ function f = f.a ∷ []
binds₁ fix f = []
binds₁ lift f = []
binds₁ quote f = []
binds₁ splice f = []

abbrev pub binds₃ : Ternary → Fields → List ℕ
binds₃ (match match_variable) f = []
binds₃ (match (match_shape match_number)) f = []
binds₃ (match (match_shape match_application)) f = f.b ∷ f.a ∷ []
binds₃ (match (match_shape match_lift)) f = f.a ∷ []
binds₃ (match (match_shape match_function)) f = f.a ∷ []
binds₃ (match (match_shape match_fix)) f = f.a ∷ []

-- The same for every kind: over its first child, and over its second, which is a match's success. Nothing is bound over a third.
abbrev pub over_first : Kind → Fields → List ℕ
over_first (leaf₀ k) f = []
over_first (unary₁ k) f = binds₁ k f
over_first (binary₂ k) f = []
over_first (ternary₃ k) f = []

abbrev pub over_second : Kind → Fields → List ℕ
over_second (leaf₀ k) f = []
over_second (unary₁ k) f = []
over_second (binary₂ k) f = []
over_second (ternary₃ k) f = binds₃ k f

-- How many variables a kind binds there, whatever its fields.
abbrev pub binders_first : Kind → ℕ
binders_first k = length (over_first k (only_type 0))

abbrev pub binders_second : Kind → ℕ
binders_second k = length (over_second k (only_type 0))
