-- What the parts of the judging of a record answer: a truth value q that is the test of a rule. The code knows of the binders Γ no more
-- than how many they are and which one the record's index names, so what it says of them holds for every such Γ.
use Rattle.std.specs.Prelude.{ℕ, ◌≡◌, List, [], ◌∷◌, Bool, length, slice_index, Result, Ok, Err}
use Rattle.std.proofs.Math.Option.{Option, none, some}
use Rattle.rules.specs.Kinds.{Shape, Match, match, leaf₀, unary₁, binary₂, ternary₃}
use Rattle.rules.specs.Kinds.{Kind as MeantKind}
use Rattle.rules.specs.Terms.{Fields}
use Rattle.rules.specs.Types.{Table, Entry as MeantEntry, entry, Code, part_a}
use Rattle.rules.specs.Conditions.{equal, same, Rule, holds}
use Rattle.rules.specs.Typing.{Binder as MeantBinder, Env, binder, bind, bound, placed, typed, shape, pattern}
use Rattle.rules.specs.Refusals.{Refusal}
use Rattle.rules.specs.Check.{judged}
use Rattle.kinds.specs.declared.names.Kind.{Kind}
use Rattle.kinds.specs.Named.{kind_meant}
use Rattle.records.specs.declared.Record.{Record}
use Rattle.records.specs.Meant.{record_meant}
use Rattle.refusals.specs.declared.reasons.Reason.{Reason}
use Rattle.refusals.specs.Reports.{reason_number}
use Rattle.judging.specs.declared.Binder.{Binder}
use Rattle.judging.specs.Stack.{binder_meant}

-- The fields of a record as the rules have them.
abbrev pub fields_meant : Record → Fields
fields_meant r = (record_meant r).fields

-- b is the binder that index i names.
pub record IsBinder (Γ : Env) (i : ℕ) (b : Binder) : Type 0 where
  pub is : binder_meant b ≡ binder Γ i

-- q is the test of the rule.
pub record Tests (rule : Rule) (q : Bool) : Type 0 where
  pub is : q ≡ holds rule

-- Entry n is e.
abbrev pub EntryTest : Table → ℕ → MeantEntry → Bool → Type 0
EntryTest types n e q = Tests (same (entry types n) e ∷ []) q

-- What a match of any kind asks of its children's types, where its own is ty: the first three conditions of its type rule.
abbrev pub match_children_rule : Table → ℕ → ℕ → ℕ → ℕ → Rule
match_children_rule types ty x y z = equal y ty ∷ equal z ty ∷ same (entry types x) (Code (part_a types x)) ∷ []

-- The kind is a match.
pub record IsMatch (kind : Kind) : Type 0 where
  pub form : Match
  pub is : kind_meant kind ≡ ternary₃ (match form)

-- What a match asks of C by its shape, and by its kind. A kind that is no match has no pattern.
pub record ShapeTest (types : Table) (s : Shape) (r : Record) (C : ℕ) (q : Bool) : Type 0 where
  pub is : q ≡ holds (shape types s (fields_meant r) C)

abbrev pub pattern_of : Table → Env → MeantKind → Fields → ℕ → Rule
pattern_of types Γ (leaf₀ k) f C = []
pattern_of types Γ (unary₁ k) f C = []
pattern_of types Γ (binary₂ k) f C = []
pattern_of types Γ (ternary₃ (match k)) f C = pattern types Γ k f C

pub record PatternTest (types : Table) (ty : ℕ) (kind : Kind) (r : Record) (C : ℕ) (q : Bool) : Type 0 where
  pub is : (Γ : Env) → (binder Γ r.a).type ≡ ty → q ≡ holds (pattern_of types Γ (kind_meant kind) (fields_meant r) C)

-- Rules 10, 11 and 12 of a record of a kind: with this a, of any fields, and with the fields of r.
pub record IndexTest (kind : Kind) (a depth : ℕ) (q : Bool) : Type 0 where
  pub is : (Γ : Env) (f : Fields) → f.a ≡ a → length Γ ≡ depth → q ≡ holds (bound Γ (kind_meant kind) f)

pub record LevelTest (kind : Kind) (l level : ℕ) (q : Bool) : Type 0 where
  pub is : (Γ : Env) (f : Fields) → (binder Γ f.a).level ≡ level → q ≡ holds (placed Γ l (kind_meant kind) f)

pub record TypeTest (types : Table) (ty : ℕ) (kind : Kind) (r : Record) (children : List ℕ) (q : Bool) : Type 0 where
  pub is : (Γ : Env) → (binder Γ r.a).type ≡ ty
      → q ≡ holds (typed types Γ (kind_meant kind) (fields_meant r) (slice_index children 0) (slice_index children 1) (slice_index children 2))

-- What the answer says of a record at its place: why it is refused, or that it is not.
abbrev pub refused_at : ℕ → Result Unit Reason → Option Refusal
refused_at n (Ok x) = none
refused_at n (Err reason) = some (record { number = reason_number reason; place = n })

-- q is the fault of a record of a kind with the fields of r, whatever its place n, where its children have these types: the lowest of 10 to 12.
pub record Judges (types : Table) (Γ : Env) (l : ℕ) (kind : Kind) (r : Record) (children : List ℕ) (q : Result Unit Reason) : Type 0 where
  pub tells : (n : ℕ) → refused_at n q ≡ judged types Γ l n (kind_meant kind) (fields_meant r) (slice_index children 0) (slice_index children 1) (slice_index children 2)
