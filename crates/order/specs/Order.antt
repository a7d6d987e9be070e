-- The order of use, document 02, N4: "A written table now has only types that the written records or their parts need. They are numbered by first need in
-- preorder: type, then a and b where they name types, parts before the whole, left first."
use Rattle.std.specs.Prelude.{ℕ, zero, suc, true, false, List, [], ◌∷◌, ◌++◌, eqb}
use Rattle.rules.specs.Kinds.{Kind, leaf₀, unary₁, binary₂, ternary₃, kind_of}
use Rattle.rules.specs.Terms.{Fields, Term, leaf, unary, binary, ternary}
use Rattle.rules.specs.Types.{Entry, Table, entry, part_a, part_b}
use Rattle.rules.specs.FieldUses.{Use, unused, an_index, a_type, a_number, uses}
use Rattle.rules.specs.Format.{Record}
use Rattle.order.specs.Numbers.{equality, number_among}

-- The types that a record names: "type, then a and b where they name types".
abbrev pub types_in : Use → ℕ → List ℕ
types_in unused x = []
types_in an_index x = []
types_in a_type x = x ∷ []
types_in a_number x = []

abbrev pub field_types : Kind → Fields → List ℕ
field_types k f = f.type ∷ (types_in (uses k).a f.a ++ types_in (uses k).b f.b)

-- The same of a record as it is laid out.
abbrev pub types_of_record : Record → List ℕ
types_of_record r = field_types (kind_of r.kind) r.fields

-- Those of all records of a term, "in preorder".
unfoldable pub types_named : Term → List ℕ
types_named (leaf k f) = field_types (leaf₀ k) f
types_named (unary k f t) = field_types (unary₁ k) f ++ types_named t
types_named (binary k f t u) = field_types (binary₂ k) f ++ (types_named t ++ types_named u)
types_named (ternary k f t s e) = field_types (ternary₃ k) f ++ (types_named t ++ (types_named s ++ types_named e))

-- The new number of type x, where `seen` are the types that have one, the latest first; 0 where x has none.
abbrev pub new_number : List ℕ → ℕ → ℕ
new_number seen x = number_among equality x seen

-- Type x is needed: nothing is to be done where it has a number; else its parts are needed, "left first", and then it gets the next number. A part that an
-- entry hasn't is 0, and needs nothing. "Parts are numbers of earlier entries", so that x generations are all.
unfoldable pub need : ℕ → Table → ℕ → List ℕ → List ℕ
need zero types x seen = seen
need (suc left) types zero seen = seen
need (suc left) types (suc n) seen = elim (eqb (new_number seen (suc n)) 0) [
  | true ↦ suc n ∷ need left types (part_b types (suc n)) (need left types (part_a types (suc n)) seen)
  | false ↦ seen
]

abbrev pub needed : Table → ℕ → List ℕ → List ℕ
needed types x seen = need x types x seen

-- Types that are needed one after another.
unfoldable pub need_all : Table → List ℕ → List ℕ → List ℕ
need_all types [] seen = seen
need_all types (x ∷ xs) seen = need_all types xs (needed types x seen)

-- The types that t needs, the first needed last.
unfoldable pub used : Table → Term → List ℕ
used types t = need_all types (types_named t) []

-- An entry, its parts by new numbers; and the entries of the types that have numbers, in the order of these.
abbrev pub renumbered_entry : List ℕ → Entry → Entry
renumbered_entry seen x = record { kind = x.kind; a = new_number seen x.a; b = new_number seen x.b }

unfoldable pub table_by : Table → List ℕ → Table
table_by types [] = []
table_by types (x ∷ xs) = table_by types xs ++ (renumbered_entry xs (entry types x) ∷ [])

-- Fields, a record and a term with other numbers for their types: "type, then a and b where they name types". An index or a number stays.
abbrev pub renumbered_in : (ℕ → ℕ) → Use → ℕ → ℕ
renumbered_in new unused x = x
renumbered_in new an_index x = x
renumbered_in new a_type x = new x
renumbered_in new a_number x = x

abbrev pub renumbered_fields : (ℕ → ℕ) → Kind → Fields → Fields
renumbered_fields new k f = record { type = new f.type; a = renumbered_in new (uses k).a f.a; b = renumbered_in new (uses k).b f.b; value = f.value }

abbrev pub renumbered_record : (ℕ → ℕ) → Record → Record
renumbered_record new r = record { kind = r.kind; fields = renumbered_fields new (kind_of r.kind) r.fields; first = r.first; next = r.next }

unfoldable pub renumbered_term : (ℕ → ℕ) → Term → Term
renumbered_term new (leaf k f) = leaf k (renumbered_fields new (leaf₀ k) f)
renumbered_term new (unary k f t) = unary k (renumbered_fields new (unary₁ k) f) (renumbered_term new t)
renumbered_term new (binary k f t u) = binary k (renumbered_fields new (binary₂ k) f) (renumbered_term new t) (renumbered_term new u)
renumbered_term new (ternary k f t s e) = ternary k (renumbered_fields new (ternary₃ k) f) (renumbered_term new t) (renumbered_term new s) (renumbered_term new e)

-- What is written for a term over a table: the table in order of use, and the term with that table's numbers.
abbrev pub written_table : Table → Term → Table
written_table types t = table_by types (used types t)

abbrev pub written_term : Table → Term → Term
written_term types t = renumbered_term (new_number (used types t)) t
