-- Where a variable stands among binders.
use Prim.Native.Nat.{ℕ, ◌+◌, ◌<◌}
use native.Mathlib.Omega.{arith}
use mathlib.Core.List.{◌++◌}
use mathlib.Core.Logic.{◌↔◌}
use mathlib.Core.Path.{◌≡◌, refl, ap₂, ap}
use lib.ListN.{length, length-append, get_or-append}
use lib.Seq.{get_or-append-add}
use Rattle.rules.specs.Kinds.{variable, leaf₀}
use Rattle.rules.specs.Terms.{Fields, Term, leaf, type_of}
use Rattle.rules.specs.Types.{Table}
use Rattle.rules.specs.Conditions.{Holds}
use Rattle.rules.specs.FieldUses.{formed}
use Rattle.rules.specs.Typing.{Env, Binder, bind, binder, Typed}

-- Term t stands rightly in Γ at level l, and has type n.
abbrev pub Has : Table → Env → ℕ → ℕ → Term → Type 0
Has types Γ l n t = Typed types Γ l t × (type_of t ≡ n)

-- Index i names the binder b.
abbrev pub Names : Env → ℕ → Binder → Type 0
Names Γ i b = (i < length Γ) × (binder Γ i ≡ b)

pub named : (types : Table) (Γ : Env) (l : ℕ) (f : Fields) → Typed types Γ l (leaf variable f) → Names Γ f.a (bind l f.type)
unfolding Typed
named types Γ l f (_, p, q, r) = (p.0, ap₂ bind q.0 r.0)

pub stands : (types : Table) (Γ : Env) (l : ℕ) (f : Fields) → Holds (formed types (leaf₀ variable) f) → Names Γ f.a (bind l f.type) → Has types Γ l f.type (leaf variable f)
unfolding Typed
stands types Γ l f o (p, q) = ((o, (p, tt), (ap (λ b. b.level) q, tt), (ap (λ b. b.type) q, tt)), refl)

pub names_low : (Γ₁ A B : Env) (i : ℕ) {b : Binder} → i < length Γ₁ → Names (Γ₁ ++ A) i b → Names (Γ₁ ++ B) i b
names_low Γ₁ A B i h (p, q) = (rw length-append (omega arith), rw get_or-append (rw get_or-append at q))

pub names_high : (Γ₁ A : Env) (i j : ℕ) {b : Binder} → i ≡ length Γ₁ + j → Names (Γ₁ ++ A) i b ↔ Names A j b
names_high Γ₁ A i j e = (
  λ (p, q). (omega (arith, length-append Γ₁ A), rw (e, get_or-append-add) at q),
  λ (p, q). (rw length-append (omega arith), rw (e, get_or-append-add) q),
)
