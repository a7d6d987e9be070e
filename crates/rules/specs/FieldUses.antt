-- Rule 7, a record's fields: document 01's table of kinds, its last column. "Type is always an entry. A field a or b that names a type is an
-- entry; an index may be any 16-bit number; an unused a, b or value is 0."
use Rattle.std.specs.Prelude.{ℕ, [], ◌∷◌, length}
use Rattle.rules.specs.Kinds.{number, variable, function, fix, lift, quote, splice, application, match_number, match_application, match_lift, match_function, match_fix, match_variable, match_shape, Kind, leaf₀, unary₁, binary₂, ternary₃, match}
use Rattle.rules.specs.Terms.{Fields}
use Rattle.rules.specs.Types.{Table}
use Rattle.rules.specs.Conditions.{Condition, anything, below, equal, between, Rule}

pub data Use : Type 0 where
  unused an_index a_type a_number : Use

-- The uses by number.
abbrev pub use_number : Use → ℕ
use_number unused = 0
use_number an_index = 1
use_number a_type = 2
use_number a_number = 3

-- n is the number of an entry.
abbrev pub is_entry : Table → ℕ → Condition
is_entry types n = between 1 n (length types)

-- What a use asks of the field. That a value is below 2 to the 32nd is so of any four bytes; it is said so that a term's fields fit their
-- places when it is written.
abbrev pub field : Table → Use → ℕ → Condition
field types unused x = equal x 0
field types an_index x = anything
field types a_type x = is_entry types x
field types a_number x = below x 4294967296

pub record Uses : Type 0 where
  pub a : Use
  pub b : Use
  pub value : Use

abbrev pub uses_none : Uses
uses_none = record { a = unused; b = unused; value = unused }

abbrev pub uses_a : Use → Uses
uses_a u = record { a = u; b = unused; value = unused }

abbrev pub uses_value : Uses
uses_value = record { a = unused; b = unused; value = a_number }

-- "Fields used"
abbrev pub uses : Kind → Uses
uses (leaf₀ number) = uses_value
uses (leaf₀ variable) = uses_a an_index
uses (unary₁ function) = uses_a a_type
uses (binary₂ application) = uses_none
uses (unary₁ fix) = uses_none
uses (unary₁ lift) = uses_none
uses (unary₁ quote) = uses_none
uses (unary₁ splice) = uses_none
uses (ternary₃ (match (match_shape match_number))) = uses_value
uses (ternary₃ (match match_variable)) = uses_a an_index
uses (ternary₃ (match (match_shape match_application))) = record { a = a_type; b = a_type; value = unused }
uses (ternary₃ (match (match_shape match_lift))) = uses_a a_type
uses (ternary₃ (match (match_shape match_function))) = uses_a a_type
uses (ternary₃ (match (match_shape match_fix))) = uses_a a_type

-- Whether a program's records have their types written, or, as document 02, N1 has it, omitted: "programs whose type fields are all 0, with
-- binder types still given".
pub data TypeFields : Type 0 where
  given omitted : TypeFields

-- What rule 7 asks of the type field. N1: "7 doesn't look at the type field".
abbrev pub type_field : TypeFields → Table → ℕ → Condition
type_field given types n = is_entry types n
type_field omitted types n = anything

-- The other fields of a record of kind k are good; and all of them.
abbrev pub formed_besides : Table → Kind → Fields → Rule
formed_besides types k f = field types (uses k).a f.a ∷ field types (uses k).b f.b ∷ field types (uses k).value f.value ∷ []

abbrev pub formed : Table → Kind → Fields → Rule
formed types k f = type_field given types f.type ∷ formed_besides types k f
