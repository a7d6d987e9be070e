-- Steps keep terms the same but for the numbers of types: what one makes, the other makes too, with the same event.
use Prim.Native.Nat.{ℕ, ◌+◌}
use mathlib.Core.List.{[], ◌∷◌}
use mathlib.Core.Path.{◌≡◌, ap, ap₂, sym, ◌∙◌, subst}
use lib.Dec.{T}
use lib.ListN.{length}
use Rattle.rules.specs.Kinds.{number, function, fix}
use Rattle.rules.specs.Terms.{Term, unary, binary, ternary}
use Rattle.rules.specs.Types.{Table}
use Rattle.rules.specs.Typing.{Env, Typed}
use Rattle.rules.specs.Indices.{gave_way}
use Rattle.rules.specs.Matching.{matched}
use Rattle.rules.specs.Contractions.{StepRule, Contraction, apply, unroll, lifted, spliced, succeeds, fails}
use Rattle.rules.specs.Steps.{Event, further, Step, here, in_child, in_first, in_second, in_first₃, in_second₃, in_third₃}
use Rattle.order.specs.FullTypes.{GoodEntries}
use Rattle.order.specs.Alike.{leaves, unaries, binaries, ternaries, SameTerm}
use Rattle.order.proofs.Lists.{nothing, also}
use Rattle.order.proofs.Replaced.{SameTerms, terms_length, replaced_same, quoted_same, gave_way_same}
use Rattle.order.proofs.Matches.{both_some, both_none, matching_same}
use Rattle.order.proofs.Alike.{size_alike, plain_alike, value_alike, done_alike}

module _ (types types' : Table) (good : GoodEntries types) (good' : GoodEntries types') where
  -- What the other term is rewritten to.
  abbrev Contracts' : ℕ → StepRule → ℕ → Term → Term → Type 0
  Contracts' l r n t' u = (u' : Term) × Contraction types' l r n t' u' × SameTerm types types' u u'

  -- As many variables give way as are counted.
  counted : {l n n' : ℕ} {r : StepRule} {t u : Term} → n ≡ n' → Contraction types' l r n' t u → Contraction types' l r n t u
  counted {l} {r = r} {t = t} {u = u} e c = subst (λ m. Contraction types' l r m t u) (sym e) c

  contraction_same : {l n : ℕ} {r : StepRule} {t u : Term} → Contraction types l r n t u → {t' : Term} → SameTerm types types' t t' → (Γ : Env) → Typed types Γ l t → Contracts' l r n t' u
  contraction_same (apply f x b v p) (binaries _ _ g r (unaries _ _ y r₁ h) h₂) Γ i =
      (_, counted (gave_way_same types types' 1 0 h) (apply g y _ _ (subst T (value_alike h₂) p)), replaced_same types types' (v ∷ []) (_ ∷ []) (also h₂ nothing) h)
  contraction_same (unroll f x b) (unaries _ _ g r (unaries _ _ y r₁ h)) Γ i =
      (_, counted (gave_way_same types types' 1 0 h) (unroll g y _), replaced_same types types' (_ ∷ []) (_ ∷ []) (also (unaries fix f g r (unaries function x y r₁ h)) nothing) h)
  contraction_same (lifted f x) (unaries _ _ g r (leaves _ _ y r₁)) Γ i = (_, lifted g y, quoted_same types types' f.type g.type r.type (leaves number x y r₁))
  contraction_same (spliced f x c p) (unaries _ _ g r (unaries _ _ y r₁ h)) Γ i = (_, spliced g y _ (subst T (plain_alike h) p), h)
  contraction_same (succeeds k f x c s e ts p m) (ternaries _ _ g {s' = s'} r (unaries _ _ y r₁ h) h₂ h₃) Γ i =
      let (us, m', q) = both_some (SameTerms types types') (matched types k f c) (matched types' k g _) (matching_same types types' good good' Γ k f g x c s e r h i) m in
      (_, counted (gave_way_same types types' (length ts) 0 h₂ ∙ ap (λ n. gave_way n 0 s') (terms_length types types' q)) (succeeds k g y _ _ _ us (subst T (plain_alike h) p) m'), replaced_same types types' ts us q h₂)
  contraction_same (fails k f x c s e p m) (ternaries _ _ g r (unaries _ _ y r₁ h) h₂ h₃) Γ i =
      (_, fails k g y _ _ _ (subst T (plain_alike h) p) (both_none (SameTerms types types') (matched types k f c) (matched types' k g _) (matching_same types types' good good' Γ k f g x c s e r h i) m), h₃)

  -- The step of the other term.
  abbrev pub Steps' : ℕ → Event → Term → Term → Type 0
  Steps' l e t' u = (u' : Term) × Step types' l e t' u' × SameTerm types types' u u'

  -- After as many records.
  placed : {l n n' : ℕ} (e : Event) {t u : Term} → n ≡ n' → Step types' l (further n' e) t u → Step types' l (further n e) t u
  placed {l} e {t = t} {u = u} i d = subst (λ m. Step types' l (further m e) t u) (sym i) d

  pub step_same : {l : ℕ} {e : Event} {t u : Term} → Step types l e t u → {t' : Term} → SameTerm types types' t t' → (Γ : Env) → Typed types Γ l t → Steps' l e t' u
  unfolding Typed
  step_same (here c) h Γ i = let (w, d, k) = contraction_same c h Γ i in (w, here d, k)
  step_same (in_child l k f en d) (unaries _ _ g r h) Γ (_, i) = let (w, d', h') = step_same d h _ i in (unary k g w, in_child l k g en d', unaries k f g r h')
  step_same (in_first l k f u en d) (binaries _ _ g r h h₂) Γ (_, i, _) = let (w, d', h') = step_same d h _ i in (binary k g w _, in_first l k g _ en d', binaries k f g r h' h₂)
  step_same (in_second l k f {e = e} t en v d) (binaries _ _ g r h h₂) Γ (_, _, i) =
      let (w, d', h') = step_same d h₂ _ i in
      (binary k g _ w, placed e (ap (λ n. 1 + n) (size_alike h)) (in_second l k g _ en (subst T (done_alike l h) v) d'), binaries k f g r h h')
  step_same (in_first₃ l k f u v en d) (ternaries _ _ g r h h₂ h₃) Γ (_, i, _, _) =
      let (w, d', h') = step_same d h _ i in (ternary k g w _ _, in_first₃ l k g _ _ en d', ternaries k f g r h' h₂ h₃)
  step_same (in_second₃ l k f {e = e} t v en p d) (ternaries _ _ g r h h₂ h₃) Γ (_, _, i, _) =
      let (w, d', h') = step_same d h₂ _ i in
      (ternary k g _ w _, placed e (ap (λ n. 1 + n) (size_alike h)) (in_second₃ l k g _ _ en (subst T (done_alike l h) p) d'), ternaries k f g r h h' h₃)
  step_same (in_third₃ l k f {e = e} t u en p q d) (ternaries _ _ g r h h₂ h₃) Γ (_, _, _, i) =
      let (w, d', h') = step_same d h₃ _ i in
      (ternary k g _ _ w, placed e (ap₂ (λ m n. 1 + m + n) (size_alike h) (size_alike h₂)) (in_third₃ l k g _ _ en (subst T (done_alike l h) p) (subst T (done_alike l h₂) q) d'), ternaries k f g r h h₂ h')
