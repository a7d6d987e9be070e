-- Levels and types: rules 10, 11 and 12, and what it is for a term to keep them all.
use Rattle.std.specs.Prelude.{ℕ, List, [], ◌∷◌, ◌++◌, map, length, get_or}
use Rattle.rules.specs.Kinds.{number, variable, Unary, function, fix, lift, quote, splice, Binary, application, Shape, match_number, match_application, match_lift, match_function, match_fix, Match, match_variable, match_shape, match, Kind, leaf₀, unary₁, binary₂, ternary₃}
use Rattle.rules.specs.Terms.{Fields, Term, leaf, unary, binary, ternary, type_of}
use Rattle.rules.specs.Binders.{binds₁, binds₃}
use Rattle.rules.specs.Types.{Table, entry, Nat, Fn, Code, part_a, part_b}
use Rattle.rules.specs.Conditions.{below, equal, same, Rule, Holds}
use Rattle.rules.specs.FieldUses.{formed}

-- A binder has the level of its variable, and its type. "An index counts binders outward from 0": the innermost is first. Where there is no
-- binder, what stands for it has a level that no record has.
pub record Binder : Type 0 where
  pub level : ℕ
  pub type : ℕ

abbrev pub Env : Type 0
Env = List Binder

abbrev pub binder : Env → ℕ → Binder
binder Γ i = get_or Γ i (record { level = 2; type = 0 })

abbrev pub bind : ℕ → ℕ → Binder
bind l t = record { level = l; type = t }

-- Γ with the variables of types ns bound inside it at level l.
abbrev pub under : ℕ → List ℕ → Env → Env
under l ns Γ = map (bind l) ns ++ Γ

-- "A quote's child is at level 1, a splice's at level 0, other children at their parent's level."
abbrev pub level₁ : Unary → ℕ → ℕ
level₁ function l = l
level₁ fix l = l
level₁ lift l = l
level₁ quote l = 1
level₁ splice l = 0

abbrev pub first_level : Kind → ℕ → ℕ
first_level (leaf₀ k) l = l
first_level (unary₁ k) l = level₁ k l
first_level (binary₂ k) l = l
first_level (ternary₃ k) l = l

-- 10: the index is below its binders.
abbrev pub bound : Env → Kind → Fields → Rule
bound Γ (leaf₀ number) f = []
bound Γ (leaf₀ variable) f = below f.a (length Γ) ∷ []
bound Γ (unary₁ k) f = []
bound Γ (binary₂ k) f = []
bound Γ (ternary₃ (match match_variable)) f = below f.a (length Γ) ∷ []
bound Γ (ternary₃ (match (match_shape k))) f = []

-- 11: the kind stands at a level where it may. "6, level 0 only", "7, level 0 only", "8, level 1 only", "9 to 14, level 0 only".
pub data Levels : Type 0 where
  any_level only_zero only_one : Levels

abbrev pub levels : Kind → Levels
levels (leaf₀ k) = any_level
levels (unary₁ function) = any_level
levels (unary₁ fix) = any_level
levels (unary₁ lift) = only_zero
levels (unary₁ quote) = only_zero
levels (unary₁ splice) = only_one
levels (binary₂ k) = any_level
levels (ternary₃ (match k)) = only_zero

abbrev pub standing : ℕ → Levels → Rule
standing l any_level = []
standing l only_zero = equal l 0 ∷ []
standing l only_one = equal l 1 ∷ []

-- 11: and so does its binder. "2: the binder has this level", "10: the named binder is at level 1".
abbrev pub placed : Env → ℕ → Kind → Fields → Rule
placed Γ l (leaf₀ number) f = []
placed Γ l (leaf₀ variable) f = equal (binder Γ f.a).level l ∷ []
placed Γ l (unary₁ k) f = standing l (levels (unary₁ k))
placed Γ l (binary₂ k) f = standing l (levels (binary₂ k))
placed Γ l (ternary₃ (match match_variable)) f = equal l 0 ∷ equal (binder Γ f.a).level 1 ∷ []
placed Γ l (ternary₃ (match (match_shape k))) f = standing l (levels (ternary₃ (match (match_shape k))))

-- 12: the type rules. In them f .type is the record's type, r; x, y and z are its children's written types, in chain order.
-- "3: r = Fn(a, body)." "5: child Fn(r,r)." "6: child Nat, r = Code(Nat)." "7: r = Code(child)." "8: child = Code(r)."
abbrev pub typed₁ : Table → Unary → Fields → ℕ → Rule
typed₁ types function f x = same (entry types f.type) (Fn f.a x) ∷ []
typed₁ types fix f x = same (entry types x) (Fn f.type f.type) ∷ []
typed₁ types lift f x = same (entry types x) Nat ∷ same (entry types f.type) (Code x) ∷ []
typed₁ types quote f x = same (entry types f.type) (Code x) ∷ []
typed₁ types splice f x = same (entry types x) (Code f.type) ∷ []

-- "4: children Fn(p,r) and p."
abbrev pub typed₂ : Table → Binary → Fields → ℕ → ℕ → Rule
typed₂ types application f x y = same (entry types x) (Fn y f.type) ∷ []

-- What a match asks of C, "the type within its code child". "9: C is Nat." "11: b = Code(p), a = Code(Fn(p,C))." "12: C and a are Nat."
-- "13: C = Fn(p,q), a = Fn(Code(p), Code(q))." "14: a = Code(Fn(C,C))."
abbrev pub shape : Table → Shape → Fields → ℕ → Rule
shape types match_number f C = same (entry types C) Nat ∷ []
shape types match_application f C =
    let p = part_a types f.b in
    same (entry types f.b) (Code p) ∷ same (entry types f.a) (Code (part_a types f.a)) ∷ same (entry types (part_a types f.a)) (Fn p C) ∷ []
shape types match_lift f C = same (entry types C) Nat ∷ same (entry types f.a) Nat ∷ []
shape types match_function f C =
    let p = part_a types C in
    let q = part_b types C in
    same (entry types C) (Fn p q) ∷ same (entry types f.a) (Fn (part_a types f.a) (part_b types f.a))
    ∷ same (entry types (part_a types f.a)) (Code p) ∷ same (entry types (part_b types f.a)) (Code q) ∷ []
shape types match_fix f C = same (entry types f.a) (Code (part_a types f.a)) ∷ same (entry types (part_a types f.a)) (Fn C C) ∷ []

-- "10: the named binder is .. of type C."
abbrev pub pattern : Table → Env → Match → Fields → ℕ → Rule
pattern types Γ match_variable f C = equal (binder Γ f.a).type C ∷ []
pattern types Γ (match_shape k) f C = shape types k f C

-- "1: r is Nat." "2: the binder has .. type r." "9 to 14: code child Code(C); success and failure have type r."
abbrev pub typed : Table → Env → Kind → Fields → ℕ → ℕ → ℕ → Rule
typed types Γ (leaf₀ number) f x y z = same (entry types f.type) Nat ∷ []
typed types Γ (leaf₀ variable) f x y z = equal (binder Γ f.a).type f.type ∷ []
typed types Γ (unary₁ k) f x y z = typed₁ types k f x
typed types Γ (binary₂ k) f x y z = typed₂ types k f x y
typed types Γ (ternary₃ (match k)) f x y z = equal y f.type ∷ equal z f.type ∷ same (entry types x) (Code (part_a types x)) ∷ pattern types Γ k f (part_a types x)

-- "A record is judged from its binders, its level and its children's written types."
abbrev pub Judged : Table → Env → ℕ → Kind → Fields → ℕ → ℕ → ℕ → Type 0
Judged types Γ l k f x y z = Holds (formed types k f) × Holds (bound Γ k f) × Holds (placed Γ l k f) × Holds (typed types Γ k f x y z)

-- Every record of the term, which stands at level l under Γ, keeps its rules.
unfoldable pub Typed : Table → Env → ℕ → Term → Type 0
Typed types Γ l (leaf k f) = Judged types Γ l (leaf₀ k) f 0 0 0
Typed types Γ l (unary k f t) = Judged types Γ l (unary₁ k) f (type_of t) 0 0 × Typed types (under l (binds₁ k f) Γ) (level₁ k l) t
Typed types Γ l (binary k f t u) = Judged types Γ l (binary₂ k) f (type_of t) (type_of u) 0 × Typed types Γ l t × Typed types Γ l u
Typed types Γ l (ternary k f t s e) =
    Judged types Γ l (ternary₃ k) f (type_of t) (type_of s) (type_of e) × Typed types Γ l t × Typed types (under 0 (binds₃ k f) Γ) l s × Typed types Γ l e
