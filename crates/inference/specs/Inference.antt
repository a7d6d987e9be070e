-- Document 02, N1, "Programs without written types": the type that a record must have, and the walk that gives each record its type, children
-- first. Rules 10 to 12 are document 01's: they are judged of the record with that type.
use Rattle.std.specs.Prelude.{ℕ, zero, suc, List, [], ◌∷◌, ◌++◌, ◌≡◌, length}
use Rattle.std.proofs.Math.Option.{Option, none, some}
use Rattle.rules.specs.Lists.{pick}
use Rattle.rules.specs.Kinds.{number, variable, Unary, function, fix, lift, quote, splice, application, Kind, leaf₀, unary₁, binary₂, ternary₃, kind_of}
use Rattle.rules.specs.Terms.{Fields, only_type, Term, leaf, unary, binary, ternary, type_of}
use Rattle.rules.specs.Binders.{binds₁, binds₃, over_first, over_second}
use Rattle.rules.specs.Types.{Entry, Table, Nat, Fn, Code, part_a, part_b}
use Rattle.rules.specs.Conditions.{same_entry, at_least, Holds}
use Rattle.rules.specs.FieldUses.{formed_besides}
use Rattle.rules.specs.Typing.{Env, binder, under, level₁, first_level}
use Rattle.rules.specs.Format.{Record, record_no, most_types}
use Rattle.rules.specs.Links.{first_of, next_of, node}
use Rattle.rules.specs.Refusals.{Refusal, table_full, unless, ◌then◌}
use Rattle.rules.specs.Check.{judged}

-- B is A, and more after it.
pub record Begins (A B : Table) : Type 0 where
  pub more : Table
  pub whole : B ≡ A ++ more

-- The fields and the record with type n, and a term whose types are all 0.
abbrev pub retyped : ℕ → Fields → Fields
retyped n f = record { type = n; a = f.a; b = f.b; value = f.value }

abbrev pub retyped_record : ℕ → Record → Record
retyped_record n r = record { kind = r.kind; fields = retyped n r.fields; first = r.first; next = r.next }

unfoldable pub cleared : Term → Term
cleared (leaf k f) = leaf k (retyped 0 f)
cleared (unary k f t) = unary k (retyped 0 f) (cleared t)
cleared (binary k f t u) = binary k (retyped 0 f) (cleared t) (cleared u)
cleared (ternary k f t s e) = ternary k (retyped 0 f) (cleared t) (cleared s) (cleared e)

-- The types of a term's records in preorder.
unfoldable pub types_of : Term → List ℕ
types_of (leaf k f) = f.type ∷ []
types_of (unary k f t) = f.type ∷ types_of t
types_of (binary k f t u) = f.type ∷ (types_of t ++ types_of u)
types_of (ternary k f t s e) = f.type ∷ (types_of t ++ (types_of s ++ types_of e))

-- The term with the type n of each record changed to φ n: the same types under other numbers.
unfoldable pub renumbered : (ℕ → ℕ) → Term → Term
renumbered φ (leaf k f) = leaf k (retyped (φ f.type) f)
renumbered φ (unary k f t) = unary k (retyped (φ f.type) f) (renumbered φ t)
renumbered φ (binary k f t u) = binary k (retyped (φ f.type) f) (renumbered φ t) (renumbered φ u)
renumbered φ (ternary k f t s e) = ternary k (retyped (φ f.type) f) (renumbered φ t) (renumbered φ s) (renumbered φ e)

-- Every record of the term keeps rule 7 but for its type field.
unfoldable pub Formed : Table → Term → Type 0
Formed types (leaf k f) = Holds (formed_besides types (leaf₀ k) f)
Formed types (unary k f t) = Holds (formed_besides types (unary₁ k) f) × Formed types t
Formed types (binary k f t u) = Holds (formed_besides types (binary₂ k) f) × Formed types t × Formed types u
Formed types (ternary k f t s e) = Holds (formed_besides types (ternary₃ k) f) × Formed types t × Formed types s × Formed types e

-- "A type missing from the table is appended": the table that has entry x, and how many entries stand before x in it.
unfoldable pub having : Table → Entry → Table
having [] x = x ∷ []
having (y ∷ ys) x = pick (same_entry y x) (y ∷ ys) (y ∷ having ys x)

unfoldable pub before : Table → Entry → ℕ
before [] x = 0
before (y ∷ ys) x = pick (same_entry y x) 0 (suc (before ys x))

-- The type that a record must have, if it can have one: a number that is known, or the number of an entry that is made.
pub data Wanted : Type 0 where
  known : ℕ → Wanted
  made : Entry → Wanted

-- "3: r = Fn(a, body)." "5: child Fn(r,r)." "6: .. r = Code(Nat)." "7: r = Code(child)." "8: child = Code(r)."
abbrev pub wanted₁ : Table → Unary → Fields → ℕ → Wanted
wanted₁ types function f x = made (Fn f.a x)
wanted₁ types fix f x = known (part_a types x)
wanted₁ types lift f x = made (Code x)
wanted₁ types quote f x = made (Code x)
wanted₁ types splice f x = known (part_a types x)

-- "1: r is Nat." "2: the binder has .. type r." "4: children Fn(p,r) and p." "9 to 14: .. success and failure have type r." x and y are the types of its
-- first two children.
abbrev pub wanted : Table → Env → Kind → Fields → ℕ → ℕ → Wanted
wanted types Γ (leaf₀ number) f x y = made Nat
wanted types Γ (leaf₀ variable) f x y = known (binder Γ f.a).type
wanted types Γ (unary₁ k) f x y = wanted₁ types k f x
wanted types Γ (binary₂ application) f x y = known (part_b types x)
wanted types Γ (ternary₃ k) f x y = known y

abbrev pub table_for : Table → Wanted → Table
table_for types (known n) = types
table_for types (made x) = having types x

abbrev pub number_for : Table → Wanted → ℕ
number_for types (known n) = n
number_for types (made x) = suc (before types x)

-- What inference comes to: a fault, or the grown table and the typed term.
pub data Inference : Type 0 where
  faulty : Refusal → Inference
  filled : Table → Term → Inference

unfoldable pub unless_refused : Option Refusal → Inference → Inference
unless_refused none o = o
unless_refused (some r) o = faulty r

-- Inference that goes on with the table and the term it has got.
infixl 15 ◌and_then◌
unfoldable pub ◌and_then◌ : Inference → (Table → Term → Inference) → Inference
faulty r and_then g = faulty r
filled types t and_then g = g types t

-- The fault of record n of kind k at level l under Γ, in the table that has its type, a 257th entry too: "with its lowest of 10, 11, 12 and 14". That type
-- is in its fields f; x, y and z are its children's types.
abbrev pub fault_in : Table → Env → ℕ → ℕ → Kind → Fields → ℕ → ℕ → ℕ → Option Refusal
fault_in types Γ l n k f x y z = judged types Γ l n k f x y z then unless (at_least (length types) most_types ∷ []) table_full n

-- Record n of kind k and fields f at level l under Γ, whose children are the typed c, s and e: it gets its type, or it is faulty.
unfoldable pub assigned : Table → Env → ℕ → Kind → Fields → ℕ → Term → Term → Term → Inference
assigned types Γ l k f n c s e =
    let w = wanted types Γ k f (type_of c) (type_of s) in
    let types' = table_for types w in
    let g = retyped (number_for types w) f in
    unless_refused (fault_in types' Γ l n k g (type_of c) (type_of s) (type_of e)) (filled types' (node k g c s e))

-- What stands for a child that is not there.
abbrev pub no_term : Term
no_term = leaf number (only_type 0)

abbrev pub absent : Table → Inference
absent types = filled types no_term

-- "Records are typed children first, in chain order": three children, each there or not, then the record.
abbrev pub in_order : (Table → Inference) → (Table → Inference) → (Table → Inference) → (Table → Term → Term → Term → Inference) → Table → Inference
in_order first second third assign types =
    first types and_then λ types₁ c.
    second types₁ and_then λ types₂ s.
    third types₂ and_then λ types₃ e.
    assign types₃ c s e

-- A term at level l under Γ. A place is a record's number, which a term doesn't have.
unfoldable pub inferred : Table → Env → ℕ → Term → Inference
inferred types Γ l (leaf k f) = in_order absent absent absent (λ A c s e. assigned A Γ l (leaf₀ k) f 0 c s e) types
inferred types Γ l (unary k f t) = in_order (λ A. inferred A (under l (binds₁ k f) Γ) (level₁ k l) t) absent absent (λ A c s e. assigned A Γ l (unary₁ k) f 0 c s e) types
inferred types Γ l (binary k f t u) = in_order (λ A. inferred A Γ l t) (λ A. inferred A Γ l u) absent (λ A c s e. assigned A Γ l (binary₂ k) f 0 c s e) types
inferred types Γ l (ternary k f t u v) =
    in_order (λ A. inferred A Γ l t) (λ A. inferred A (under 0 (binds₃ k f) Γ) l u) (λ A. inferred A Γ l v) (λ A c s e. assigned A Γ l (ternary₃ k) f 0 c s e) types

-- The same of the tree of record n, with the records' numbers as places. 0 is no record; `left` bounds the generations, as in the walk of check.
-- Document 01's sentences on levels and binders have no condition, and hold below a faulty record too: a quote's child is at level 1 though the quote
-- itself be at a wrong level.
unfoldable pub inferred_from : ℕ → Table → List Record → Env → ℕ → ℕ → Inference
inferred_from zero types rs Γ l n = filled types no_term
inferred_from (suc left) types rs Γ l zero = filled types no_term
inferred_from (suc left) types rs Γ l (suc m) =
    let n = suc m in
    let f = (record_no rs n).fields in
    let k = kind_of (record_no rs n).kind in
    let c = first_of rs n in
    let s = next_of rs c in
    let e = next_of rs s in
    in_order
    (λ A. inferred_from left A rs (under l (over_first k f) Γ) (first_level k l) c)
    (λ A. inferred_from left A rs (under 0 (over_second k f) Γ) l s)
    (λ A. inferred_from left A rs Γ l e)
    (λ A tc ts te. assigned A Γ l k f n tc ts te) types
