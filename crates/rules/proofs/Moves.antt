-- Raising, replacing and wrapping keep the types.
use Prim.Native.Nat.{ℕ, zero, suc, ◌+◌, ◌-◌, ◌≤◌, ◌<◌}
use native.Mathlib.Omega.{arith}
use mathlib.Core.List.{List, [], ◌∷◌, ◌++◌, map}
use mathlib.Core.Bool.{not}
use mathlib.Core.Path.{◌≡◌, refl, ap, sym, ◌∙◌}
use lib.Dec.{T, ltb, eqb, ltb→lt, eqb→eq, nltb→le, not_T, eqb-suc-suc}
use lib.ListN.{length, get_or, length-map}
use Rattle.rules.specs.Kinds.{number, variable, leaf₀}
use Rattle.rules.specs.Terms.{Fields, Term, leaf, type_of, only_type}
use Rattle.rules.specs.Indices.{changed, raising, raised_index, raised, replacing, replaced, wrapping, wrapped}
use Rattle.rules.specs.Types.{Table, entry, Code}
use Rattle.rules.specs.Conditions.{Holds}
use Rattle.rules.specs.FieldUses.{formed}
use Rattle.rules.specs.Typing.{Env, Binder, bind, under, Typed}
use Rattle.rules.specs.Values.{plain}
use Rattle.rules.proofs.General.{picked}
use Rattle.rules.proofs.Tables.{entry_in}
use Rattle.rules.proofs.Facts.{Has, Names, stands, names_low, names_high}
use Rattle.rules.proofs.Kept.{Indices, kept}

-- Raising
raised_names : (Γ₁ Δ Γ : Env) (i : ℕ) {b : Binder} → Names (Γ₁ ++ Γ) i b → Names (Γ₁ ++ (Δ ++ Γ)) (raised_index (length Δ) (length Γ₁) i) b
raised_names Γ₁ Δ Γ i {b} h = picked (λ j. Names (Γ₁ ++ (Δ ++ Γ)) j b) (ltb i (length Γ₁))
    (λ t. names_low Γ₁ Γ (Δ ++ Γ) i (ltb→lt _ _ t) h)
    (λ t. let j = i - length Γ₁ in
    let le = nltb→le i (length Γ₁) t in
    (names_high Γ₁ (Δ ++ Γ) (i + length Δ) (length Δ + j) (omega arith)).1 ((names_high Δ Γ (length Δ + j) j refl).1 ((names_high Γ₁ Γ i j (omega arith)).0 h)))

pub weakened : (types : Table) (Γ₁ Δ Γ : Env) (l : ℕ) (t : Term) → Typed types (Γ₁ ++ Γ) l t
    → Has types (Γ₁ ++ (Δ ++ Γ)) l (type_of t) (changed (raising (length Δ)) (length Γ₁) t)
weakened types Γ₁ Δ Γ l t = kept types (raising (length Δ)) Γ (Δ ++ Γ)
    (λ Γ₁ l f o h. stands types (Γ₁ ++ (Δ ++ Γ)) l _ o (raised_names Γ₁ Δ Γ f.a h)) Γ₁ l t (λ _ Γ₁ i n. raised_names Γ₁ Δ Γ i)

-- Replacing: terms for the variables of types ns
pub data Args (types : Table) (Γ : Env) : List ℕ → List Term → Type 0 where
  nothing : Args types Γ [] []
  also : {n : ℕ} (t : Term) {ns : List ℕ} {ts : List Term} → Has types Γ 0 n t → Args types Γ ns ts → Args types Γ (n ∷ ns) (t ∷ ts)

module _ {types : Table} {Γ : Env} where
  args_length : {ns : List ℕ} {ts : List Term} → Args types Γ ns ts → length ns ≡ length ts
  args_length nothing = refl
  args_length (also t h r) = ap suc (args_length r)

  arg_at : {ns : List ℕ} {ts : List Term} → Args types Γ ns ts → (j l n : ℕ) (z : Term) → j < length ts → Names (under 0 ns Γ) j (bind l n) → (l ≡ 0) × Has types Γ 0 n (get_or ts j z)
  arg_at nothing j l n z h k = absurd (omega arith)
  arg_at (also t h r) zero l n z _ (p, q) = (ap (λ b. b.level) (sym q), (h.0, h.1 ∙ ap (λ b. b.type) q))
  arg_at (also t h r) (suc j) l n z i (p, q) = arg_at r j l n z (omega arith) (omega arith, q)

fallen_names : (Γ₁ Δ Γ : Env) (i m : ℕ) {b : Binder} → length Δ ≡ m → length Γ₁ + m ≤ i → Names (Γ₁ ++ (Δ ++ Γ)) i b → Names (Γ₁ ++ Γ) (i - m) b
fallen_names Γ₁ Δ Γ i m e le h = let j = i - length Γ₁ in
    (names_high Γ₁ Γ (i - m) (j - m) (omega arith)).1 ((names_high Δ Γ j (j - m) (omega arith)).0 ((names_high Γ₁ (Δ ++ Γ) i j (omega arith)).0 h))

module _ {types : Table} {Γ : Env} {ns : List ℕ} {ts : List Term} (given : Args types Γ ns ts) where
  removed : length (map (bind 0) ns) ≡ length ts
  removed = rw (length-map, args_length given)

  -- a variable that is replaced
  at_arg : (Γ₁ : Env) (i l n : ℕ) (z : Term) → length Γ₁ ≤ i → i < length Γ₁ + length ts → Names (Γ₁ ++ under 0 ns Γ) i (bind l n) → (l ≡ 0) × Has types Γ 0 n (get_or ts (i - length Γ₁) z)
  at_arg Γ₁ i l n z h k r = arg_at given (i - length Γ₁) l n z (omega arith) ((names_high Γ₁ (under 0 ns Γ) i (i - length Γ₁) (omega arith)).0 r)

  on_variable_lem : (Γ₁ : Env) (l : ℕ) (f : Fields) → Holds (formed types (leaf₀ variable) f) → Names (Γ₁ ++ under 0 ns Γ) f.a (bind l f.type) → Has types (Γ₁ ++ Γ) l f.type ((replacing ts).on_variable (length Γ₁) f)
  unfolding raised
  on_variable_lem Γ₁ l f o h = picked (Has types (Γ₁ ++ Γ) l f.type) (ltb f.a (length Γ₁))
      (λ t. stands types (Γ₁ ++ Γ) l f o (names_low Γ₁ (under 0 ns Γ) Γ f.a (ltb→lt _ _ t) h))
      (λ t. picked (Has types (Γ₁ ++ Γ) l f.type) (ltb f.a (length Γ₁ + length ts))
      (λ u. let (z, (k, e)) = at_arg Γ₁ f.a l f.type (leaf variable f) (nltb→le _ _ t) (ltb→lt _ _ u) h in
      let (k', e') = weakened types [] Γ₁ Γ 0 _ k in rw z (k', e' ∙ e))
      (λ u. stands types (Γ₁ ++ Γ) l _ o (fallen_names Γ₁ (map (bind 0) ns) Γ f.a (length ts) removed (nltb→le _ _ u) h)))

  on_index_lem : Indices (replacing ts) (under 0 ns Γ) Γ
  on_index_lem Γ₁ i n h = picked (λ j. Names (Γ₁ ++ Γ) j (bind 1 n)) (ltb i (length Γ₁))
      (λ t. names_low Γ₁ (under 0 ns Γ) Γ i (ltb→lt _ _ t) h)
      (λ t. fallen_names Γ₁ (map (bind 0) ns) Γ i (length ts) removed
      (nltb→le _ _ (not_T (ltb i (length Γ₁ + length ts)) λ u. omega (arith, (at_arg Γ₁ i 1 n (leaf number (only_type n)) (nltb→le _ _ t) (ltb→lt _ _ u) h).0))) h)

  pub substituted : (l : ℕ) (t : Term) → Typed types (under 0 ns Γ) l t → Has types Γ l (type_of t) (replaced ts t)
  unfolding replaced
  substituted l t = kept types (replacing ts) (under 0 ns Γ) Γ on_variable_lem [] l t (λ _. on_index_lem)

-- Wrapping: the binder x is another one
names_other : (Γ₁ Γ : Env) (x y : Binder) (i : ℕ) {b : Binder} → T (not (eqb i (length Γ₁))) → Names (Γ₁ ++ (x ∷ Γ)) i b → Names (Γ₁ ++ (y ∷ Γ)) i b
names_other [] Γ x y zero n h = absurd n
names_other [] Γ x y (suc i) n h = h
names_other (z ∷ Γ₁) Γ x y zero n (p, q) = (omega arith, q)
names_other (z ∷ Γ₁) Γ x y (suc i) n (p, q) = let (p', q') = names_other Γ₁ Γ x y i (rw eqb-suc-suc at n) (omega arith, q) in (omega arith, q')

module _ (types : Table) (Γ : Env) (p code : ℕ) (is : entry types code ≡ Code p) where
  wrap_variable : (Γ₁ : Env) (l : ℕ) (f : Fields) → Holds (formed types (leaf₀ variable) f) → Names (Γ₁ ++ (bind 1 p ∷ Γ)) f.a (bind l f.type)
      → Has types (Γ₁ ++ (bind 0 code ∷ Γ)) l f.type ((wrapping code).on_variable (length Γ₁) f)
  unfolding Typed
  wrap_variable Γ₁ l f o h = let Γ' = Γ₁ ++ (bind 0 code ∷ Γ) in picked (Has types Γ' l f.type) (eqb f.a (length Γ₁))
      (λ t. let e = eqb→eq f.a (length Γ₁) t in
      let (k, q) = (names_high Γ₁ (bind 1 p ∷ Γ) f.a 0 (omega arith)).0 h in (
        (
          ((o.0, (refl, (refl, (refl, tt)))), tt, (ap (λ b. b.level) (sym q), tt), (is ∙ ap (λ b. Code b.type) q, tt)),
          (stands types Γ' 0 (record { type = code; a = f.a; b = f.b; value = f.value }) (entry_in types code is (omega arith), o.1) ((names_high Γ₁ (bind 0 code ∷ Γ) f.a 0 (omega arith)).1 (omega arith, refl))).0,
        ),
        refl,
      ))
      (λ t. stands types Γ' l f o (names_other Γ₁ Γ (bind 1 p) (bind 0 code) f.a t h))

  pub wrapped_keeps : (t : Term) → T (plain t) → Typed types (bind 1 p ∷ Γ) 1 t → Has types (bind 0 code ∷ Γ) 1 (type_of t) (wrapped code t)
  unfolding wrapped
  wrapped_keeps t h = kept types (wrapping code) (bind 1 p ∷ Γ) (bind 0 code ∷ Γ) wrap_variable [] 1 t (λ n. absurd (n h))
