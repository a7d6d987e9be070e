-- Terms and programs that differ in the fields of their records only, and what may differ in these. Document 02, N4: inputs "that differ just in table order
-- or unused entries".
use Rattle.std.specs.Prelude.{ℕ, ◌≤◌, List, ◌≡◌}
use Rattle.rules.specs.Kinds.{Leaf, Unary, Binary, Ternary, Kind, leaf₀, unary₁, binary₂, ternary₃, kind_of}
use Rattle.rules.specs.Terms.{Fields, Term, leaf, unary, binary, ternary}
use Rattle.rules.specs.Types.{Table}
use Rattle.rules.specs.FieldUses.{Use, unused, an_index, a_type, a_number, uses, TypeFields, given, omitted}
use Rattle.rules.specs.Format.{Record, record_count, table_of, records_of, record_no}
use Rattle.order.specs.FullTypes.{SameType}

-- The same tree of kinds, where the fields of two records of one kind are as R says.
pub data Alike (R : Kind → Fields → Fields → Type 0) : Term → Term → Type 0 where
  leaves : (k : Leaf) (f g : Fields) → R (leaf₀ k) f g → Alike R (leaf k f) (leaf k g)
  unaries : (k : Unary) (f g : Fields) {t t' : Term} → R (unary₁ k) f g → Alike R t t' → Alike R (unary k f t) (unary k g t')
  binaries : (k : Binary) (f g : Fields) {t t' u u' : Term} → R (binary₂ k) f g → Alike R t t' → Alike R u u' → Alike R (binary k f t u) (binary k g t' u')
  ternaries : (k : Ternary) (f g : Fields) {t t' s s' e e' : Term} → R (ternary₃ k) f g → Alike R t t' → Alike R s s' → Alike R e e' → Alike R (ternary k f t s e) (ternary k g t' s' e')

-- The same fields, each over its own table: those that name types name types that are equal in full, all else is equal. Where types are omitted, the type
-- field is not looked at, as rule 7 does not.
abbrev pub SameIn : Table → Table → Use → ℕ → ℕ → Type 0
SameIn types types' unused x y = x ≡ y
SameIn types types' an_index x y = x ≡ y
SameIn types types' a_type x y = SameType types types' x y
SameIn types types' a_number x y = x ≡ y

abbrev pub SameInType : TypeFields → Table → Table → ℕ → ℕ → Type 0
SameInType given types types' x y = SameType types types' x y
SameInType omitted types types' x y = Unit {0}

pub record SameFields (fields : TypeFields) (types types' : Table) (k : Kind) (f g : Fields) : Type 0 where
  pub type : SameInType fields types types' f.type g.type
  pub a : SameIn types types' (uses k).a f.a g.a
  pub b : SameIn types types' (uses k).b f.b g.b
  pub value : f.value ≡ g.value

-- The same term, but for the numbers of types; its own types are given.
abbrev pub SameTerm : Table → Table → Term → Term → Type 0
SameTerm types types' = Alike (SameFields given types types')

-- Two programs, each over its own table, that "differ just in table order or unused entries": the same records, with links and all, but for the numbers of
-- types.
pub record SameRecord (fields : TypeFields) (types types' : Table) (r s : Record) : Type 0 where
  pub kind : r.kind ≡ s.kind
  pub same : SameFields fields types types' (kind_of r.kind) r.fields s.fields
  pub first : r.first ≡ s.first
  pub next : r.next ≡ s.next

pub record SameProgram (fields : TypeFields) (p q : List ℕ) : Type 0 where
  pub count : record_count p ≡ record_count q
  pub records : (n : ℕ) → 1 ≤ n → n ≤ record_count p → SameRecord fields (table_of p) (table_of q) (record_no (records_of p) n) (record_no (records_of q) n)
