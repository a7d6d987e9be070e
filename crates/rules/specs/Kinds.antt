-- The kinds of records: document 01's table of kinds, its first two columns.
use Rattle.std.specs.Prelude.{ℕ, List, [], ◌∷◌, eqb}
use Rattle.rules.specs.Lists.{pick}

-- The kinds by their number of children: 0, 1, 2 and 3. Those with 3 are matches so far; of these, match variable alone has an index.
pub data Leaf : Type 0 where
  number variable : Leaf

pub data Unary : Type 0 where
  function fix lift quote splice : Unary

pub data Binary : Type 0 where
  application : Binary

pub data Shape : Type 0 where
  match_number match_application match_lift match_function match_fix : Shape

pub data Match : Type 0 where
  match_variable : Match
  match_shape : Shape → Match

pub data Ternary : Type 0 where
  match : Match → Ternary

pub data Kind : Type 0 where
  leaf₀ : Leaf → Kind
  unary₁ : Unary → Kind
  binary₂ : Binary → Kind
  ternary₃ : Ternary → Kind

-- "Children"
abbrev pub child_count : Kind → ℕ
child_count (leaf₀ k) = 0
child_count (unary₁ k) = 1
child_count (binary₂ k) = 2
child_count (ternary₃ k) = 3

-- "Kind": the one table of the kinds' numbers.
abbrev pub kind_number : Kind → ℕ
kind_number (leaf₀ number) = 1
kind_number (leaf₀ variable) = 2
kind_number (unary₁ function) = 3
kind_number (binary₂ application) = 4
kind_number (unary₁ fix) = 5
kind_number (unary₁ lift) = 6
kind_number (unary₁ quote) = 7
kind_number (unary₁ splice) = 8
kind_number (ternary₃ (match (match_shape match_number))) = 9
kind_number (ternary₃ (match match_variable)) = 10
kind_number (ternary₃ (match (match_shape match_application))) = 11
kind_number (ternary₃ (match (match_shape match_lift))) = 12
kind_number (ternary₃ (match (match_shape match_function))) = 13
kind_number (ternary₃ (match (match_shape match_fix))) = 14

-- The table's numbers go from 1 to this one. Which of them a program may use is its edition's.
abbrev pub highest_kind : ℕ
highest_kind = 14

-- Every kind, once.
abbrev pub kinds : List Kind
kinds =
    leaf₀ number
    ∷ leaf₀ variable
    ∷ unary₁ function
    ∷ binary₂ application
    ∷ unary₁ fix
    ∷ unary₁ lift
    ∷ unary₁ quote
    ∷ unary₁ splice
    ∷ ternary₃ (match (match_shape match_number))
    ∷ ternary₃ (match match_variable)
    ∷ ternary₃ (match (match_shape match_application))
    ∷ ternary₃ (match (match_shape match_lift))
    ∷ ternary₃ (match (match_shape match_function))
    ∷ ternary₃ (match (match_shape match_fix))
    ∷ []

-- The kind that has number n by the table. A number that no kind has is refused by 7; what stands for it here is of no account.
unfoldable pub numbered : ℕ → List Kind → Kind
numbered n [] = leaf₀ number
numbered n (k ∷ ks) = pick (eqb (kind_number k) n) k (numbered n ks)

unfoldable pub kind_of : ℕ → Kind
kind_of n = numbered n kinds
