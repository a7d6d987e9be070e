-- A typed term is typed under the other table too.
use Prim.Native.Nat.{ℕ, zero, suc, ◌<◌}
use native.Mathlib.Omega.{arith}
use mathlib.Core.List.{[], ◌∷◌}
use mathlib.Core.Path.{◌≡◌, refl, ap, sym, ◌∙◌}
use lib.ListN.{length}
use Rattle.rules.specs.Kinds.{Leaf, number, variable, Unary, function, fix, lift, quote, splice, Binary, application, Shape, match_number, match_application, match_lift, match_function, match_fix, Ternary, match, match_variable, match_shape, Kind, leaf₀, unary₁, binary₂, ternary₃}
use Rattle.rules.specs.Terms.{Fields, Term, type_of}
use Rattle.rules.specs.Binders.{binds₁, binds₃}
use Rattle.rules.specs.Types.{Table, part_a}
use Rattle.rules.specs.Conditions.{Met, Holds}
use Rattle.rules.specs.FieldUses.{Use, unused, an_index, a_type, a_number, uses, field, formed, TypeFields, given}
use Rattle.rules.specs.Typing.{Env, binder, under, bound, placed, typed, typed₁, typed₂, shape, Typed}
use Rattle.rules.proofs.General.{◌&◌}
use Rattle.rules.proofs.KindTable.{each_kind}
use Rattle.order.specs.FullTypes.{GoodEntries, SameType}
use Rattle.order.specs.Alike.{leaves, unaries, binaries, ternaries, SameIn, SameFields, SameTerm}
use Rattle.order.proofs.Entries.{equal_there, nat_there, fn_there, code_there, fn_parts, code_part}

-- The binders of the two, one by one.
abbrev pub SameEnv : Table → Table → Env → Env → Type 0
SameEnv types types' [] [] = Unit {0}
SameEnv types types' [] (b ∷ Γ) = ⊥
SameEnv types types' (b ∷ Γ) [] = ⊥
SameEnv types types' (b ∷ Γ) (c ∷ Δ) = (b.level ≡ c.level) × SameType types types' b.type c.type × SameEnv types types' Γ Δ

-- The root's type.
pub root_same : {types types' : Table} {t t' : Term} → SameTerm types types' t t' → SameType types types' (type_of t) (type_of t')
root_same (leaves k f g r) = r.type
root_same (unaries k f g r h) = r.type
root_same (binaries k f g r h i) = r.type
root_same (ternaries k f g r h i j) = r.type

module _ (types types' : Table) where
  pub env_length : (Γ Δ : Env) → SameEnv types types' Γ Δ → length Γ ≡ length Δ
  env_length [] [] h = refl
  env_length [] (b ∷ Δ) h = absurd h
  env_length (b ∷ Γ) [] h = absurd h
  env_length (b ∷ Γ) (c ∷ Δ) (_, _, h) = ap suc (env_length Γ Δ h)

  pub env_at : (Γ Δ : Env) (i : ℕ) → SameEnv types types' Γ Δ → i < length Γ → ((binder Γ i).level ≡ (binder Δ i).level) × SameType types types' (binder Γ i).type (binder Δ i).type
  env_at [] [] i h k = absurd (omega arith)
  env_at [] (b ∷ Δ) i h k = absurd h
  env_at (b ∷ Γ) [] i h k = absurd h
  env_at (b ∷ Γ) (c ∷ Δ) zero (l, p, h) k = (l, p)
  env_at (b ∷ Γ) (c ∷ Δ) (suc i) (l, p, h) k = env_at Γ Δ i h (omega arith)

  -- Fields
  field_kept : (u : Use) (x y : ℕ) → SameIn types types' u x y → Met (field types u x) → Met (field types' u y)
  field_kept unused x y h i = sym h ∙ i
  field_kept an_index x y h i = tt
  field_kept a_type x y h i = h.there
  field_kept a_number x y h i = rw (← h) i

  -- No kind's value names a type.
  value_kept : (x : ℕ) (k : Kind) → Met (field types (uses k).value x) → Met (field types' (uses k).value x)
  value_kept x = each_kind (λ k. Met (field types (uses k).value x) → Met (field types' (uses k).value x))
      ((λ h. h) & (λ h. h) & (λ h. h) & (λ h. h) & (λ h. h) & (λ h. h) & (λ h. h) & (λ h. h) & (λ h. h) & (λ h. h) & (λ h. h) & (λ h. h) & (λ h. h) & (λ h. h) & tt)

  formed_kept : (k : Kind) (f g : Fields) → SameFields given types types' k f g → Holds (formed types k f) → Holds (formed types' k g)
  formed_kept k f g h (_, (a, (b, (v, _)))) =
      (h.type.there, (field_kept (uses k).a f.a g.a h.a a, (field_kept (uses k).b f.b g.b h.b b, (rw h.value at (value_kept f.value k v), tt))))

  bound_kept : (Γ Δ : Env) (k : Kind) (f g : Fields) → SameEnv types types' Γ Δ → SameFields given types types' k f g → Holds (bound Γ k f) → Holds (bound Δ k g)
  bound_kept Γ Δ (leaf₀ number) f g e h i = tt
  bound_kept Γ Δ (leaf₀ variable) f g e h (i, _) = (omega (arith, env_length Γ Δ e, h.a), tt)
  bound_kept Γ Δ (unary₁ k) f g e h i = tt
  bound_kept Γ Δ (binary₂ k) f g e h i = tt
  bound_kept Γ Δ (ternary₃ (match match_variable)) f g e h (i, _) = (omega (arith, env_length Γ Δ e, h.a), tt)
  bound_kept Γ Δ (ternary₃ (match (match_shape k))) f g e h i = tt

  level_at_lem : (Γ Δ : Env) (i j : ℕ) → SameEnv types types' Γ Δ → i ≡ j → i < length Γ → (binder Γ i).level ≡ (binder Δ j).level
  level_at_lem Γ Δ i j e d h = rw (← d) (env_at Γ Δ i e h).0

  placed_kept : (Γ Δ : Env) (l : ℕ) (k : Kind) (f g : Fields) → SameEnv types types' Γ Δ → SameFields given types types' k f g → Holds (bound Γ k f) → Holds (placed Γ l k f) → Holds (placed Δ l k g)
  placed_kept Γ Δ l (leaf₀ number) f g e h b i = tt
  placed_kept Γ Δ l (leaf₀ variable) f g e h (b, _) (i, _) = (sym (level_at_lem Γ Δ f.a g.a e h.a b) ∙ i, tt)
  placed_kept Γ Δ l (unary₁ k) f g e h b i = i
  placed_kept Γ Δ l (binary₂ k) f g e h b i = i
  placed_kept Γ Δ l (ternary₃ (match match_variable)) f g e h (b, _) (z, (i, _)) = (z, (sym (level_at_lem Γ Δ f.a g.a e h.a b) ∙ i, tt))
  placed_kept Γ Δ l (ternary₃ (match (match_shape k))) f g e h b i = i

  -- What a record binds.
  pub env_under₁ : {fields : TypeFields} (Γ Δ : Env) (l : ℕ) (k : Unary) (f g : Fields) → SameFields fields types types' (unary₁ k) f g → SameEnv types types' Γ Δ → SameEnv types types' (under l (binds₁ k f) Γ) (under l (binds₁ k g) Δ)
  env_under₁ Γ Δ l function f g h e = (refl, h.a, e)
  env_under₁ Γ Δ l fix f g h e = e
  env_under₁ Γ Δ l lift f g h e = e
  env_under₁ Γ Δ l quote f g h e = e
  env_under₁ Γ Δ l splice f g h e = e

  pub env_under₃ : {fields : TypeFields} (Γ Δ : Env) (k : Ternary) (f g : Fields) → SameFields fields types types' (ternary₃ k) f g → SameEnv types types' Γ Δ → SameEnv types types' (under 0 (binds₃ k f) Γ) (under 0 (binds₃ k g) Δ)
  env_under₃ Γ Δ (match match_variable) f g h e = e
  env_under₃ Γ Δ (match (match_shape match_number)) f g h e = e
  env_under₃ Γ Δ (match (match_shape match_application)) f g h e = (refl, h.b, (refl, h.a, e))
  env_under₃ Γ Δ (match (match_shape match_lift)) f g h e = (refl, h.a, e)
  env_under₃ Γ Δ (match (match_shape match_function)) f g h e = (refl, h.a, e)
  env_under₃ Γ Δ (match (match_shape match_fix)) f g h e = (refl, h.a, e)

  -- The type rules
  module _ (good : GoodEntries types) (good' : GoodEntries types') where
    typed_kept₁ : (k : Unary) (f g : Fields) (x x' : ℕ) → SameFields given types types' (unary₁ k) f g → SameType types types' x x' → Holds (typed₁ types k f x) → Holds (typed₁ types' k g x')
    typed_kept₁ function f g x x' h p (e, _) = (fn_there types types' good good' f.type g.type f.a g.a x x' h.type h.a p e, tt)
    typed_kept₁ fix f g x x' h p (e, _) = (fn_there types types' good good' x x' f.type g.type f.type g.type p h.type h.type e, tt)
    typed_kept₁ lift f g x x' h p (d, (e, _)) = (nat_there types types' good good' x x' p d, (code_there types types' good good' f.type g.type x x' h.type p e, tt))
    typed_kept₁ quote f g x x' h p (e, _) = (code_there types types' good good' f.type g.type x x' h.type p e, tt)
    typed_kept₁ splice f g x x' h p (e, _) = (code_there types types' good good' x x' f.type g.type p h.type e, tt)

    typed_kept₂ : (k : Binary) (f g : Fields) (x x' y y' : ℕ) → SameFields given types types' (binary₂ k) f g → SameType types types' x x' → SameType types types' y y' → Holds (typed₂ types k f x y) → Holds (typed₂ types' k g x' y')
    typed_kept₂ application f g x x' y y' h p q (e, _) = (fn_there types types' good good' x x' y y' f.type g.type p q h.type e, tt)

    shape_kept : (k : Shape) (f g : Fields) (C C' : ℕ) → SameFields given types types' (ternary₃ (match (match_shape k))) f g → SameType types types' C C' → Holds (shape types k f C) → Holds (shape types' k g C')
    shape_kept match_number f g C C' h p (e, _) = (nat_there types types' good good' C C' p e, tt)
    shape_kept match_application f g C C' h p (d, (e, (i, _))) =
        let pb = code_part types types' good good' f.b g.b h.b d in
        let pa = code_part types types' good good' f.a g.a h.a e in
        (code_there types types' good good' _ _ _ _ h.b pb d, (code_there types types' good good' _ _ _ _ h.a pa e, (fn_there types types' good good' _ _ _ _ _ _ pa pb p i, tt)))
    shape_kept match_lift f g C C' h p (d, (e, _)) = (nat_there types types' good good' C C' p d, (nat_there types types' good good' f.a g.a h.a e, tt))
    shape_kept match_function f g C C' h p (d, (e, (i, (j, _)))) =
        let (pp, pq) = fn_parts types types' good good' C C' p d in
        let (pa, pb) = fn_parts types types' good good' f.a g.a h.a e in
        (fn_there types types' good good' _ _ _ _ _ _ p pp pq d, (fn_there types types' good good' _ _ _ _ _ _ h.a pa pb e, (code_there types types' good good' _ _ _ _ pa pp i, (code_there types types' good good' _ _ _ _ pb pq j, tt))))
    shape_kept match_fix f g C C' h p (d, (e, _)) =
        let pa = code_part types types' good good' f.a g.a h.a d in
        (code_there types types' good good' _ _ _ _ h.a pa d, (fn_there types types' good good' _ _ _ _ _ _ pa p p e, tt))

    -- The binder that an index names.
    type_at : (Γ Δ : Env) (i j x x' : ℕ) → SameEnv types types' Γ Δ → i ≡ j → i < length Γ → SameType types types' x x' → (binder Γ i).type ≡ x → (binder Δ j).type ≡ x'
    type_at Γ Δ i j x x' e d h p q = rw (← d) (equal_there types types' good good' (binder Γ i).type (binder Δ i).type x x' (env_at Γ Δ i e h).1 p q)

    typed_kept₃ : (Γ Δ : Env) (k : Ternary) (f g : Fields) (x x' y y' z z' : ℕ) → SameEnv types types' Γ Δ → SameFields given types types' (ternary₃ k) f g
        → SameType types types' x x' → SameType types types' y y' → SameType types types' z z' → Holds (bound Γ (ternary₃ k) f) → Holds (typed types Γ (ternary₃ k) f x y z) → Holds (typed types' Δ (ternary₃ k) g x' y' z')
    typed_kept₃ Γ Δ (match match_variable) f g x x' y y' z z' e h p q r (b, _) (i, (j, (c, (t, _)))) =
        let pc = code_part types types' good good' x x' p c in (
          equal_there types types' good good' y y' f.type g.type q h.type i,
          (
            equal_there types types' good good' z z' f.type g.type r h.type j,
            (code_there types types' good good' _ _ _ _ p pc c, (type_at Γ Δ f.a g.a (part_a types x) (part_a types' x') e h.a b pc t, tt)),
          ),
        )
    typed_kept₃ Γ Δ (match (match_shape k)) f g x x' y y' z z' e h p q r _ (i, (j, (c, t))) =
        let pc = code_part types types' good good' x x' p c in (
          equal_there types types' good good' y y' f.type g.type q h.type i,
          (
            equal_there types types' good good' z z' f.type g.type r h.type j,
            (code_there types types' good good' _ _ _ _ p pc c, shape_kept k f g (part_a types x) (part_a types' x') h pc t),
          ),
        )

    typed_kept : (Γ Δ : Env) (k : Leaf) (f g : Fields) → SameEnv types types' Γ Δ → SameFields given types types' (leaf₀ k) f g
        → Holds (bound Γ (leaf₀ k) f) → Holds (typed types Γ (leaf₀ k) f 0 0 0) → Holds (typed types' Δ (leaf₀ k) g 0 0 0)
    typed_kept Γ Δ number f g e h b (i, _) = (nat_there types types' good good' f.type g.type h.type i, tt)
    typed_kept Γ Δ variable f g e h (b, _) (i, _) = (type_at Γ Δ f.a g.a f.type g.type e h.a b h.type i, tt)

    pub retyped : {t t' : Term} → SameTerm types types' t t' → (Γ Δ : Env) (l : ℕ) → SameEnv types types' Γ Δ → Typed types Γ l t → Typed types' Δ l t'
    unfolding Typed
    retyped (leaves k f g r) Γ Δ l e (o, b, p, q) = (formed_kept (leaf₀ k) f g r o, bound_kept Γ Δ (leaf₀ k) f g e r b, placed_kept Γ Δ l (leaf₀ k) f g e r b p, typed_kept Γ Δ k f g e r b q)
    retyped (unaries k f g r h) Γ Δ l e ((o, b, p, q), i) =
        ((formed_kept (unary₁ k) f g r o, bound_kept Γ Δ (unary₁ k) f g e r b, placed_kept Γ Δ l (unary₁ k) f g e r b p, typed_kept₁ k f g _ _ r (root_same h) q), retyped h _ _ _ (env_under₁ Γ Δ l k f g r e) i)
    retyped (binaries k f g r h h₂) Γ Δ l e ((o, b, p, q), i, i₂) = (
      (formed_kept (binary₂ k) f g r o, bound_kept Γ Δ (binary₂ k) f g e r b, placed_kept Γ Δ l (binary₂ k) f g e r b p, typed_kept₂ k f g _ _ _ _ r (root_same h) (root_same h₂) q),
      retyped h Γ Δ l e i,
      retyped h₂ Γ Δ l e i₂,
    )
    retyped (ternaries k f g r h h₂ h₃) Γ Δ l e ((o, b, p, q), i, i₂, i₃) = (
      (formed_kept (ternary₃ k) f g r o, bound_kept Γ Δ (ternary₃ k) f g e r b, placed_kept Γ Δ l (ternary₃ k) f g e r b p, typed_kept₃ Γ Δ k f g _ _ _ _ _ _ e r (root_same h) (root_same h₂) (root_same h₃) b q),
      retyped h Γ Δ l e i,
      retyped h₂ _ _ l (env_under₃ Γ Δ k f g r e) i₂,
      retyped h₃ Γ Δ l e i₃,
    )
