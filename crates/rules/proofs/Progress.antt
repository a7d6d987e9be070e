-- Progress: a typed term under binders of level 1 that is not done has a next term.
use Prim.Native.Nat.{ℕ, zero, suc, ◌<◌, ◌≤◌}
use mathlib.Core.List.{[], ◌∷◌}
use mathlib.Core.Bool.{Bool, true, false, ◌&&◌, not}
use mathlib.Core.Option.{Option, none, some, IsSome}
use mathlib.Core.Path.{◌≡◌, refl, ap}
use mathlib.Core.Logic.{◌⊎◌, inl, inr}
use native.Mathlib.Omega.{arith}
use lib.Dec.{T, T_not, ltb, ltb→lt, eqb→eq}
use lib.ListN.{length}
use mir.Facts.{yes_and}
use Rattle.rules.specs.Lists.{mapped}
use Rattle.rules.specs.Kinds.{number, variable, Unary, function, fix, lift, quote, splice, Binary, application, Ternary, match_variable, match_shape, unary₁, binary₂, ternary₃, match}
use Rattle.rules.specs.Terms.{Fields, Term, leaf, unary, binary, ternary, type_of}
use Rattle.rules.specs.Binders.{binds₁}
use Rattle.rules.specs.Types.{Table, entry}
use Rattle.rules.specs.Conditions.{Holds}
use Rattle.rules.specs.Typing.{Env, binder, under, typed₁, typed₂, level₁, Typed, standing, levels}
use Rattle.rules.specs.Values.{plain, value, done}
use Rattle.rules.specs.Steps.{steps_child}
use Rattle.rules.specs.Next.{body_of, code_of, numeral_of, Next, contracted₁, contracted₂, waits, next}
use Rattle.rules.proofs.General.{is_false, tested}
use Rattle.rules.proofs.Agree.{entered, undone, settled}

-- Every binder is at level 1.
abbrev pub Later : Env → Type 0
Later [] = Unit {0}
Later (b ∷ Γ) = (b.level ≡ 1) × Later Γ

later_at : (Γ : Env) (i : ℕ) → Later Γ → i < length Γ → (binder Γ i).level ≡ 1
later_at [] i l h = absurd (omega arith)
later_at (b ∷ Γ) zero l h = l.0
later_at (b ∷ Γ) (suc i) l h = later_at Γ i l.1 (omega arith)

pub later_under : (l : ℕ) (k : Unary) (f : Fields) (Γ : Env) → T (steps_child l (unary₁ k) 0) → Later Γ → Later (under l (binds₁ k f) Γ)
later_under l function f Γ en h = (eqb→eq l 1 (entered l function en), h)
later_under l fix f Γ en h = h
later_under l lift f Γ en h = h
later_under l quote f Γ en h = h
later_under l splice f Γ en h = h

some_mapped : {A B : Type 0} (k : A → B) (o : Option A) → IsSome o → IsSome (mapped k o)
some_mapped k none h = h
some_mapped k (some x) h = tt

-- The values of each type.
pub record Form (types : Table) (t : Term) : Type 0 where
  pub of_nat : (entry types (type_of t)).kind ≡ 1 → IsSome (numeral_of t)
  pub of_fn : (entry types (type_of t)).kind ≡ 2 → IsSome (body_of t)
  pub of_code : (entry types (type_of t)).kind ≡ 3 → IsSome (code_of t)

form : (types : Table) (Γ : Env) (t : Term) → T (value t) → Typed types Γ 0 t → Form types t
unfolding value Typed
form types Γ (leaf number f) v (_, _, _, (q, _)) = let n = ap (λ r. r.kind) q in record { of_nat = λ e. tt; of_fn = λ e. omega arith; of_code = λ e. omega arith }
form types Γ (leaf variable f) v h = absurd v
form types Γ (unary function f t) v ((_, _, _, (q, _)), h) = let n = ap (λ r. r.kind) q in record { of_nat = λ e. omega arith; of_fn = λ e. tt; of_code = λ e. omega arith }
form types Γ (unary fix f t) v h = absurd v
form types Γ (unary lift f t) v h = absurd v
form types Γ (unary quote f t) v ((_, _, _, (q, _)), h) = let n = ap (λ r. r.kind) q in record { of_nat = λ e. omega arith; of_fn = λ e. omega arith; of_code = λ e. tt }
form types Γ (unary splice f t) v h = absurd v
form types Γ (binary k f t u) v h = absurd v
form types Γ (ternary k f t s e) v h = absurd v

-- At levels 0 and 1, what is rightly placed and not done steps its child.
enters_it : (l : ℕ) (k : Unary) (f : Fields) (t : Term) → l ≤ 1 → Holds (standing l (levels (unary₁ k))) → T (not (done l (unary k f t))) → T (steps_child l (unary₁ k) 0)
unfolding value plain
enters_it zero function f t b p n = absurd n
enters_it zero fix f t b p n = tt
enters_it zero lift f t b p n = tt
enters_it zero quote f t b p n = tt
enters_it zero splice f t b (p, _) n = absurd (omega arith)
enters_it (suc zero) function f t b p n = tt
enters_it (suc zero) fix f t b p n = tt
enters_it (suc zero) lift f t b (p, _) n = absurd (omega arith)
enters_it (suc zero) quote f t b (p, _) n = absurd (omega arith)
enters_it (suc zero) splice f t b p n = tt
enters_it (suc (suc l)) k f t b p n = absurd (omega arith)

pub level_low : (l : ℕ) (k : Unary) → l ≤ 1 → level₁ k l ≤ 1
level_low l function b = b
level_low l fix b = b
level_low l lift b = b
level_low l quote b = omega arith
level_low l splice b = omega arith

-- A match, at level 0, steps its first child only.
first_only : (k : Ternary) (i : ℕ) (t : Term) → waits 0 (ternary₃ k) (suc i) t ≡ false
unfolding waits
first_only k i t = rw (is_false (ltb (suc i) 1) (λ h. omega (arith, ltb→lt (suc i) 1 h)))

module _ (types : Table) where
  some_contracted : (l : ℕ) (k : Unary) (f : Fields) (t : Term) (Γ : Env) → l ≤ 1 → T (steps_child l (unary₁ k) 0) → T (done (level₁ k l) t) → T (not (done l (unary k f t)))
      → Holds (typed₁ types k f (type_of t)) → Typed types Γ (level₁ k l) t → IsSome (contracted₁ l k f t)
  unfolding value plain
  some_contracted zero function f t Γ b en d n q h = absurd en
  some_contracted (suc zero) function f t Γ b en d n q h = T_not (plain t) n d
  some_contracted zero fix f t Γ b en d n (q, _) h = some_mapped _ (body_of t) ((form types Γ t d h).of_fn (ap (λ r. r.kind) q))
  some_contracted (suc zero) fix f t Γ b en d n q h = T_not (plain t) n d
  some_contracted zero lift f t Γ b en d n (q, _) h = some_mapped _ (numeral_of t) ((form types Γ t d h).of_nat (ap (λ r. r.kind) q))
  some_contracted (suc zero) lift f t Γ b en d n q h = absurd en
  some_contracted zero quote f t Γ b en d n q h = T_not (plain t) n d
  some_contracted (suc zero) quote f t Γ b en d n q h = absurd en
  some_contracted zero splice f t Γ b en d n q h = absurd en
  some_contracted (suc zero) splice f t Γ b en d n (q, _) h = some_mapped _ (code_of t) ((form types Γ t d h).of_code (ap (λ r. r.kind) q))
  some_contracted (suc (suc l)) k f t Γ b en d n q h = absurd (omega arith)

  both_contracted : (l : ℕ) (k : Binary) (f : Fields) (t u : Term) (Γ : Env) → T (done l t) → T (done l u) → T (not (done l (binary k f t u)))
      → Holds (typed₂ types k f (type_of t) (type_of u)) → Typed types Γ l t → IsSome (contracted₂ l k f t u)
  unfolding value plain
  both_contracted zero application f t u Γ d e n (q, _) h = some_mapped _ (body_of t) ((form types Γ t d h).of_fn (ap (λ r. r.kind) q))
  both_contracted (suc l) application f t u Γ d e n q h = T_not (plain t && plain u) n (yes_and (plain t) (plain u) d e)

  pub goes : (l : ℕ) (Γ : Env) (t : Term) → l ≤ 1 → Later Γ → Typed types Γ l t → T (not (done l t)) → IsSome (next types l t)
  unfolding next value plain Typed
  goes zero Γ (leaf number f) b y h n = absurd n
  goes zero Γ (leaf variable f) b y (_, (i, _), (p, _), _) n = absurd (omega (arith, later_at Γ f.a y i))
  goes (suc l) Γ (leaf k f) b y h n = absurd n
  goes l Γ (unary k f t) b y ((_, _, p, q), h) n = let en = enters_it l k f t b p n in
      tested IsSome (waits l (unary₁ k) 0 t) _ _
      (λ w. some_mapped _ (next types (level₁ k l) t) (goes (level₁ k l) (under l (binds₁ k f) Γ) t (level_low l k b) (later_under l k f Γ en y) h (undone l (unary₁ k) 0 t w)))
      (λ w. some_contracted l k f t (under l (binds₁ k f) Γ) b en (settled l (unary₁ k) 0 t w en) n q h)
  goes l Γ (binary k f t u) b y ((_, _, _, q), h, j) n = tested IsSome (waits l (binary₂ k) 0 t) _ _
      (λ w. some_mapped _ (next types l t) (goes l Γ t b y h (undone l (binary₂ k) 0 t w)))
      (λ w. tested IsSome (waits l (binary₂ k) 1 u) _ _
      (λ w'. some_mapped _ (next types l u) (goes l Γ u b y j (undone l (binary₂ k) 1 u w')))
      (λ w'. both_contracted l k f t u Γ (settled l (binary₂ k) 0 t w tt) (settled l (binary₂ k) 1 u w' tt) n q h))
  goes zero Γ (ternary (match k) f t s e) b y ((_, _, _, (_, (_, (q, _)))), h, _, _) n = tested IsSome (waits 0 (ternary₃ (match k)) 0 t) _ _
      (λ w. some_mapped _ (next types 0 t) (goes 0 Γ t b y h (undone 0 (ternary₃ (match k)) 0 t w)))
      (λ w. rw (first_only (match k) 0 s, first_only (match k) 1 e) (some_mapped _ (code_of t) ((form types Γ t (settled 0 (ternary₃ (match k)) 0 t w tt) h).of_code (ap (λ r. r.kind) q))))
  goes (suc l) Γ (ternary (match match_variable) f t s e) b y ((_, _, (p, _), _), _, _, _) n = absurd (omega arith)
  goes (suc l) Γ (ternary (match (match_shape k)) f t s e) b y ((_, _, (p, _), _), _, _, _) n = absurd (omega arith)

  pub value_or : {A : Type 0} (b : Bool) (o : Option A) → (T (not b) → IsSome o) → T b ⊎ ((x : A) × (o ≡ some x))
  value_or true o g = inl tt
  value_or false none g = absurd (g tt)
  value_or false (some x) g = inr (x, refl)

  pub progress : (t : Term) → Typed types [] 0 t → T (value t) ⊎ ((m : Next) × (next types 0 t ≡ some m))
  progress t h = value_or (value t) (next types 0 t) (goes 0 [] t (omega arith) tt h)
