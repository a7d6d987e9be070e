-- Terms that are the same but for the numbers of types stay so when their indices move and their variables are replaced or wrapped, and as many variables
-- give way in them.
use Prim.Native.Nat.{ℕ, zero, suc, ◌+◌, ◌-◌}
use mathlib.Core.Bool.{Bool, true, false, not}
use mathlib.Core.List.{List}
use mathlib.Core.Path.{◌≡◌, refl, ap, ap₂, ◌∙◌, subst}
use lib.Dec.{T, ltb, eqb}
use lib.ListN.{length, get_or}
use Rattle.rules.specs.Lists.{pick}
use Rattle.rules.specs.Kinds.{number, variable, quote, splice, match, match_variable, leaf₀, ternary₃}
use Rattle.rules.specs.Terms.{Fields, Term, leaf}
use Rattle.rules.specs.Binders.{binds₁, binds₃}
use Rattle.rules.specs.Indices.{with_index, raised_index, raising, raised, lowered_index, replacement, replacing, replaced, wrapping, wrapped, gives, summed, gave_way}
use Rattle.rules.specs.Types.{Table}
use Rattle.rules.specs.Matching.{quoted}
use Rattle.rules.specs.FieldUses.{given}
use Rattle.order.specs.FullTypes.{SameType}
use Rattle.order.specs.Alike.{leaves, unaries, binaries, ternaries, SameFields, SameTerm}
use Rattle.order.proofs.Lists.{Each, nothing, also}
use Rattle.order.proofs.Alike.{binders₁, binders₃, changed_alike}

-- Two choices by one test.
pub picked₂ : {A B : Type 0} (P : A → B → Type 0) (b c : Bool) {x y : A} {x' y' : B} → b ≡ c → (T b → P x x') → (T (not b) → P y y') → P (pick b x y) (pick c x' y')
picked₂ P true c e h k = rw (← e) (h tt)
picked₂ P false c e h k = rw (← e) (k tt)

module _ (types types' : Table) where
  abbrev pub SameTerms : List Term → List Term → Type 0
  SameTerms = Each Term Term (SameTerm types types')

  pub terms_length : {ts us : List Term} → SameTerms ts us → length ts ≡ length us
  terms_length nothing = refl
  terms_length (also r h) = ap suc (terms_length h)

  term_at : {ts us : List Term} (i : ℕ) (z w : Term) → SameTerms ts us → SameTerm types types' z w → SameTerm types types' (get_or ts i z) (get_or us i w)
  term_at i z w nothing k = k
  term_at zero z w (also r h) k = r
  term_at (suc i) z w (also r h) k = term_at i z w h k

  -- Moved indices, replaced and wrapped variables
  index_same : (i j : ℕ) (f g : Fields) → i ≡ j → SameFields given types types' (leaf₀ variable) f g → SameTerm types types' (leaf variable (with_index f i)) (leaf variable (with_index g j))
  index_same i j f g e r = leaves variable _ _ (record { type = r.type; a = e; b = r.b; value = r.value })

  named_same : (i j : ℕ) (f g : Fields) → i ≡ j → SameFields given types types' (ternary₃ (match match_variable)) f g → SameFields given types types' (ternary₃ (match match_variable)) (with_index f i) (with_index g j)
  named_same i j f g e r = record { type = r.type; a = e; b = r.b; value = r.value }

  raised_same : (n : ℕ) {t u : Term} → SameTerm types types' t u → SameTerm types types' (raised n t) (raised n u)
  unfolding raised
  raised_same n h = changed_alike (raising n) (raising n)
      (λ d f g r. index_same _ _ f g (ap (raised_index n d) r.a) r) (λ d f g r. named_same _ _ f g (ap (raised_index n d) r.a) r) h 0

  replacement_same : (ts us : List Term) → SameTerms ts us → (d : ℕ) (f g : Fields) → SameFields given types types' (leaf₀ variable) f g → SameTerm types types' (replacement ts d f) (replacement us d g)
  replacement_same ts us h d f g r =
      let n = terms_length h in
      let i : f.a ≡ g.a = r.a in
      picked₂ (SameTerm types types') (ltb f.a d) (ltb g.a d) (ap (λ m. ltb m d) i) (λ _. leaves variable f g r)
      (λ _. picked₂ (SameTerm types types') (ltb f.a (d + length ts)) (ltb g.a (d + length us)) (ap₂ (λ m k. ltb m (d + k)) i n)
      (λ _. raised_same d (subst (λ m. SameTerm types types' (get_or ts (f.a - d) (leaf variable f)) (get_or us (m - d) (leaf variable g))) i (term_at (f.a - d) (leaf variable f) (leaf variable g) h (leaves variable f g r))))
      (λ _. index_same (f.a - length ts) (g.a - length us) f g (ap₂ ◌-◌ i n) r))

  pub replaced_same : (ts us : List Term) → SameTerms ts us → {t u : Term} → SameTerm types types' t u → SameTerm types types' (replaced ts t) (replaced us u)
  unfolding replaced
  replaced_same ts us h k = changed_alike (replacing ts) (replacing us) (replacement_same ts us h)
      (λ d f g r. named_same _ _ f g (ap₂ (λ m i. lowered_index m d i) (terms_length h) r.a) r) k 0

  pub wrapped_same : (c c' : ℕ) → SameType types types' c c' → {t u : Term} → SameTerm types types' t u → SameTerm types types' (wrapped c t) (wrapped c' u)
  unfolding wrapped
  wrapped_same c c' e h = changed_alike (wrapping c) (wrapping c')
      (λ d f g r. let i : f.a ≡ g.a = r.a in picked₂ (SameTerm types types') (eqb f.a d) (eqb g.a d) (ap (λ m. eqb m d) i)
      (λ _. unaries splice _ _ (record { type = r.type; a = refl; b = refl; value = refl }) (leaves variable _ _ (record { type = e; a = r.a; b = r.b; value = r.value })))
      (λ _. leaves variable f g r)) (λ d f g r. named_same _ _ f g r.a r) h 0

  pub quoted_same : (n n' : ℕ) → SameType types types' n n' → {t u : Term} → SameTerm types types' t u → SameTerm types types' (quoted n t) (quoted n' u)
  quoted_same n n' e h = unaries quote _ _ (record { type = e; a = refl; b = refl; value = refl }) h

  -- As many variables give way.
  summed_same : (variables : ℕ → ℕ → ℕ) (others d : ℕ) {t u : Term} → SameTerm types types' t u → summed variables others d t ≡ summed variables others d u
  unfolding summed
  summed_same variables others d (leaves number f g r) = refl
  summed_same variables others d (leaves variable f g r) = ap (variables d) r.a
  summed_same variables others d (unaries k f g {t' = t'} r h) =
      ap (λ n. others + n) (summed_same variables others (length (binds₁ k f) + d) h ∙ ap (λ n. summed variables others (n + d) t') (binders₁ k f g))
  summed_same variables others d (binaries k f g r h i) = ap₂ (λ m n. others + m + n) (summed_same variables others d h) (summed_same variables others d i)
  summed_same variables others d (ternaries k f g {s' = s'} r h i j) =
      let p = summed_same variables others d h in
      let q = summed_same variables others (length (binds₃ k f) + d) i ∙ ap (λ n. summed variables others (n + d) s') (binders₃ k f g) in
      let w = summed_same variables others d j in
      λ x. others + p x + q x + w x

  pub gave_way_same : (m d : ℕ) {t u : Term} → SameTerm types types' t u → gave_way m d t ≡ gave_way m d u
  unfolding gave_way
  gave_way_same m d h = summed_same (gives m) 0 d h
