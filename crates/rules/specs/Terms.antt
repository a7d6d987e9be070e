-- Terms: "a term is a tree of records without links; each place in it counts as one record".
use Rattle.std.specs.Prelude.{ℕ, ◌+◌}
use Rattle.rules.specs.Kinds.{Leaf, Unary, Binary, Ternary, Kind, leaf₀, unary₁, binary₂, ternary₃}

-- A record's fields but its kind and its links.
pub record Fields : Type 0 where
  pub type : ℕ
  pub a : ℕ
  pub b : ℕ
  pub value : ℕ

-- Fields of a record that uses its type only.
abbrev pub only_type : ℕ → Fields
only_type n = record { type = n; a = 0; b = 0; value = 0 }

-- The number that a record of kind 1 or 9 holds.
abbrev pub number_held : Fields → ℕ
number_held f = f.value

-- A record with as many children as its kind has.
pub data Term : Type 0 where
  leaf : Leaf → Fields → Term
  unary : Unary → Fields → Term → Term
  binary : Binary → Fields → Term → Term → Term
  ternary : Ternary → Fields → Term → Term → Term → Term

-- The kind and the fields of a term's root.
abbrev pub root_kind : Term → Kind
root_kind (leaf k f) = leaf₀ k
root_kind (unary k f t) = unary₁ k
root_kind (binary k f t u) = binary₂ k
root_kind (ternary k f t s e) = ternary₃ k

abbrev pub fields_of : Term → Fields
fields_of (leaf k f) = f
fields_of (unary k f t) = f
fields_of (binary k f t u) = f
fields_of (ternary k f t s e) = f

-- A term's type is its root's.
abbrev pub type_of : Term → ℕ
type_of t = (fields_of t).type

-- The records of a term.
unfoldable pub size : Term → ℕ
size (leaf k f) = 1
size (unary k f t) = 1 + size t
size (binary k f t u) = 1 + size t + size u
size (ternary k f t s e) = 1 + size t + size s + size e
