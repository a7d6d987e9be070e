-- A typed term's types are forced: two typed terms that are the same but for the types of their records are the same in these too, in full.
use Prim.Native.Nat.{ℕ}
use mathlib.Core.Path.{◌≡◌, ap, ap₂, sym, ◌∙◌, subst}
use Rattle.rules.specs.Kinds.{Leaf, number, variable, Unary, function, fix, lift, quote, splice, Binary, application, Ternary, match, match_variable, match_shape, Kind, leaf₀, unary₁, ternary₃}
use Rattle.rules.specs.Terms.{Fields, Term, type_of}
use Rattle.rules.specs.Types.{Table, entry, Nat, Fn, Code}
use Rattle.rules.specs.Conditions.{Holds}
use Rattle.rules.specs.FieldUses.{given, omitted}
use Rattle.rules.specs.Typing.{Env, binder, bound, typed, typed₁, typed₂, Typed}
use Rattle.inference.specs.FullTypes.{fn, code}
use Rattle.order.specs.FullTypes.{NamesType, GoodEntries, SameType}
use Rattle.order.specs.Alike.{Alike, leaves, unaries, binaries, ternaries, SameFields, SameTerm}
use Rattle.order.proofs.Full.{entry_nat, entry_fn, entry_code}
use Rattle.order.proofs.Entries.{same_fn, same_code}
use Rattle.order.proofs.Retyped.{SameEnv, root_same, env_at, env_under₁, env_under₃}

module _ (types types' : Table) (good : GoodEntries types) (good' : GoodEntries types') where
  -- A type from its parts, and its parts.
  made_nat : (x x' : ℕ) → NamesType types x → NamesType types' x' → entry types x ≡ Nat → entry types' x' ≡ Nat → SameType types types' x x'
  made_nat x x' h h' e e' = record { here = h; there = h'; same = entry_nat types good x h e ∙ sym (entry_nat types' good' x' h' e') }

  made_fn : (x x' p p' q q' : ℕ) → NamesType types x → NamesType types' x' → entry types x ≡ Fn p q → entry types' x' ≡ Fn p' q' → SameType types types' p p' → SameType types types' q q'
      → SameType types types' x x'
  made_fn x x' p p' q q' h h' e e' a b =
      record { here = h; there = h'; same = (entry_fn types good x p q h e).0 ∙ (ap₂ fn a.same b.same ∙ sym (entry_fn types' good' x' p' q' h' e').0) }

  made_code : (x x' c c' : ℕ) → NamesType types x → NamesType types' x' → entry types x ≡ Code c → entry types' x' ≡ Code c' → SameType types types' c c' → SameType types types' x x'
  made_code x x' c c' h h' e e' a = record { here = h; there = h'; same = (entry_code types good x c h e).0 ∙ (ap code a.same ∙ sym (entry_code types' good' x' c' h' e').0) }

  fn_argument : (x x' p p' q q' : ℕ) → SameType types types' x x' → entry types x ≡ Fn p q → entry types' x' ≡ Fn p' q' → SameType types types' p p'
  fn_argument x x' p p' q q' h e e' = let r = same_fn types types' good good' x x' p q h e in subst (SameType types types' p) (ap (λ y. y.a) (sym r.is ∙ e')) r.first

  fn_result : (x x' p p' q q' : ℕ) → SameType types types' x x' → entry types x ≡ Fn p q → entry types' x' ≡ Fn p' q' → SameType types types' q q'
  fn_result x x' p p' q q' h e e' = let r = same_fn types types' good good' x x' p q h e in subst (SameType types types' q) (ap (λ y. y.b) (sym r.is ∙ e')) r.second

  code_inner : (x x' c c' : ℕ) → SameType types types' x x' → entry types x ≡ Code c → entry types' x' ≡ Code c' → SameType types types' c c'
  code_inner x x' c c' h e e' = let r = same_code types types' good good' x x' c h e in subst (SameType types types' c) (ap (λ y. y.a) (sym r.is ∙ e')) r.inner

  -- The type of one record, by its rule.
  forced₀ : (Γ Δ : Env) (k : Leaf) (f g : Fields) → SameEnv types types' Γ Δ → SameFields omitted types types' (leaf₀ k) f g → NamesType types f.type → NamesType types' g.type
      → Holds (bound Γ (leaf₀ k) f) → Holds (typed types Γ (leaf₀ k) f 0 0 0) → Holds (typed types' Δ (leaf₀ k) g 0 0 0) → SameType types types' f.type g.type
  forced₀ Γ Δ number f g v r h h' b (e, _) (e', _) = made_nat f.type g.type h h' e e'
  forced₀ Γ Δ variable f g v r h h' (b, _) (e, _) (e', _) =
      let s = (env_at types types' Γ Δ f.a v b).1 in
      subst (λ x. SameType types types' x g.type) e (subst (SameType types types' (binder Γ f.a).type) (ap (λ i. (binder Δ i).type) r.a ∙ e') s)

  forced₁ : (k : Unary) (f g : Fields) (x x' : ℕ) → SameFields omitted types types' (unary₁ k) f g → NamesType types f.type → NamesType types' g.type → SameType types types' x x'
      → Holds (typed₁ types k f x) → Holds (typed₁ types' k g x') → SameType types types' f.type g.type
  forced₁ function f g x x' r h h' s (e, _) (e', _) = made_fn f.type g.type f.a g.a x x' h h' e e' r.a s
  forced₁ fix f g x x' r h h' s (e, _) (e', _) = fn_argument x x' f.type g.type f.type g.type s e e'
  forced₁ lift f g x x' r h h' s (_, (e, _)) (_, (e', _)) = made_code f.type g.type x x' h h' e e' s
  forced₁ quote f g x x' r h h' s (e, _) (e', _) = made_code f.type g.type x x' h h' e e' s
  forced₁ splice f g x x' r h h' s (e, _) (e', _) = code_inner x x' f.type g.type s e e'

  forced₂ : (k : Binary) (f g : Fields) (x x' y y' : ℕ) → SameType types types' x x' → Holds (typed₂ types k f x y) → Holds (typed₂ types' k g x' y') → SameType types types' f.type g.type
  forced₂ application f g x x' y y' s (e, _) (e', _) = fn_result x x' y y' f.type g.type s e e'

  -- A match has the type of its success.
  success_typed : (table : Table) (Γ : Env) (k : Ternary) (f : Fields) (x y z : ℕ) → Holds (typed table Γ (ternary₃ k) f x y z) → y ≡ f.type
  success_typed table Γ (match match_variable) f x y z h = h.0
  success_typed table Γ (match (match_shape k)) f x y z h = h.0

  typed_fields : (k : Kind) (f g : Fields) → SameFields omitted types types' k f g → SameType types types' f.type g.type → SameFields given types types' k f g
  typed_fields k f g r s = record { type = s; a = r.a; b = r.b; value = r.value }

  pub types_forced : {t t' : Term} → Alike (SameFields omitted types types') t t' → (Γ Δ : Env) (l : ℕ) → SameEnv types types' Γ Δ → Typed types Γ l t → Typed types' Δ l t' → SameTerm types types' t t'
  unfolding Typed
  types_forced (leaves k f g r) Γ Δ l v (o, b, _, q) (o', _, _, q') = leaves k f g (typed_fields _ f g r (forced₀ Γ Δ k f g v r o.0 o'.0 b q q'))
  types_forced (unaries k f g r h) Γ Δ l v ((o, _, _, q), i) ((o', _, _, q'), i') =
      let j = types_forced h _ _ _ (env_under₁ types types' Γ Δ l k f g r v) i i' in
      unaries k f g (typed_fields _ f g r (forced₁ k f g _ _ r o.0 o'.0 (root_same j) q q')) j
  types_forced (binaries k f g r h h₂) Γ Δ l v ((o, _, _, q), i, i₂) ((o', _, _, q'), i', i₂') =
      let j = types_forced h Γ Δ l v i i' in
      binaries k f g (typed_fields _ f g r (forced₂ k f g _ _ _ _ (root_same j) q q')) j (types_forced h₂ Γ Δ l v i₂ i₂')
  types_forced (ternaries k f g {s' = a'} r h h₂ h₃) Γ Δ l v ((o, _, _, q), i, i₂, i₃) ((o', _, _, q'), i', i₂', i₃') =
      let j = types_forced h₂ _ _ l (env_under₃ types types' Γ Δ k f g r v) i₂ i₂' in
      let s = subst (SameType types types' f.type) (success_typed types' Δ k g _ _ _ q') (subst (λ x. SameType types types' x (type_of a')) (success_typed types Γ k f _ _ _ q) (root_same j)) in
      ternaries k f g (typed_fields _ f g r s) (types_forced h Γ Δ l v i i') j (types_forced h₃ Γ Δ l v i₃ i₃')
