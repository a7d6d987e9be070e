-- What a search of a typed tree tells: where nothing is found the tree is done, and what is found is the redex, in an evaluation context.
use Prim.Native.Nat.{ℕ, ◌+◌, ◌≤◌}
use native.Mathlib.Omega.{arith}
use mathlib.Core.List.{[], ◌∷◌}
use mathlib.Core.Bool.{Bool, true, false}
use mathlib.Core.Logic.{⊎_elim}
use mathlib.Core.Path.{◌≡◌, refl, sym, ap, subst, ◌∙◌}
use lib.Dec.{T}
use Rattle.rules.specs.Kinds.{unary₁, binary₂, ternary₃}
use Rattle.rules.specs.Terms.{Term, leaf, unary, binary, ternary, root_kind, size}
use Rattle.rules.specs.Types.{Table}
use Rattle.rules.specs.Typing.{Env, Typed, level₁}
use Rattle.rules.specs.Values.{plain, value, done}
use Rattle.rules.specs.Contractions.{StepRule, Contraction, apply, unroll, lifted, spliced, succeeds, fails, contracts}
use Rattle.rules.specs.Steps.{steps_child, Step}
use Rattle.rules.specs.Next.{Next}
use Rattle.rules.proofs.RuleKinds.{contracts_kind}
use Rattle.rules.proofs.Progress.{Later}
use Rattle.terms.specs.Children.{kids, sizes}
use Rattle.contexts.specs.Contexts.{Frame, only, first, second, first₃, second₃, third₃, fill, children_before, hole_level, StepsHole, Context, plug, level_at, left_size, Evaluation}
use Rattle.contexts.specs.Moving.{Settled, Ready}
use Rattle.contexts.proofs.Moving.{done_or_steps}
use Rattle.contexts.proofs.Focused.{focused}
use Rattle.redexes.specs.declared.Found.{Found}
use Rattle.redexes.specs.declared.Found.TheVariants.{Done, Redex}
use Rattle.redexes.specs.Finding.{or_else, searched, find}
use Rattle.redexes.specs.Located.{Located}
use Rattle.redexes.proofs.Ends.{searched_done, done_ends, done_found}

-- What is rewritten has done children, where it steps them.
contraction_ready : {types : Table} {l n : ℕ} {r : StepRule} {t u : Term} → Contraction types l r n t u → Ready l t
unfolding kids Settled value plain
contraction_ready (apply f g b v p) = (λ _. tt, (λ _. p, tt))
contraction_ready (unroll f g b) = (λ _. tt, tt)
contraction_ready (lifted f g) = (λ _. tt, tt)
contraction_ready (spliced f g c p) = (λ _. p, tt)
contraction_ready (succeeds k f g c s e ts p m) = (λ _. p, (λ n. absurd n, (λ n. absurd n, tt)))
contraction_ready (fails k f g c s e p m) = (λ _. p, (λ n. absurd n, (λ n. absurd n, tt)))

-- Such a root is what is found.
ready_found : (l : ℕ) (t : Term) (i : ℕ) → Ready l t → contracts l (root_kind t) ≡ true → find l t i ≡ Redex i
unfolding find kids Settled
ready_found l (leaf k f) i r c = absurd (subst T (sym c) tt)
ready_found l (unary k f t) i r c = searched_done (steps_child l (unary₁ k) 0) _ _ _ (λ s. done_found t (level₁ k l) (i + 1) (r.0 s)) ∙ (rw c)
ready_found l (binary k f t u) i r c =
    searched_done (steps_child l (binary₂ k) 0) _ _ _ (λ s. done_found t l (i + 1) (r.0 s))
    ∙ searched_done (steps_child l (binary₂ k) 1) _ _ _ (λ s. done_found u l (i + 1 + size t) (r.1.0 s)) ∙ (rw c)
ready_found l (ternary k f t s e) i r c =
    searched_done (steps_child l (ternary₃ k) 0) _ _ _ (λ s. done_found t l (i + 1) (r.0 s))
    ∙ searched_done (steps_child l (ternary₃ k) 1) _ _ _ (λ n. done_found s l (i + 1 + size t) (r.1.0 n))
    ∙ searched_done (steps_child l (ternary₃ k) 2) _ _ _ (λ n. done_found e l (i + 1 + size t + size s) (r.1.1.0 n)) ∙ (rw c)

-- What is found in a child that is stepped is what is found, where nothing is found in the children before it.
searched_found : (b : Bool) (x y : Found) (p : ℕ) → T b → x ≡ Redex p → searched b x y ≡ Redex p
unfolding searched or_else
searched_found true x y p h e = rw (e, or_else)
searched_found false x y p h e = absurd h

found_filled : (l : ℕ) (F : Frame) (t : Term) (i p : ℕ) → StepsHole l F → find (hole_level F l) t (i + (1 + sizes (children_before F))) ≡ Redex p → find l (fill F t) i ≡ Redex p
unfolding find sizes
found_filled l (only k f) t i p (s, _) e = searched_found (steps_child l (unary₁ k) 0) _ _ _ s e
found_filled l (first k f u) t i p (s, _) e = searched_found (steps_child l (binary₂ k) 0) _ _ _ s e
found_filled l (second k f r) t i p (s, (d, _)) e =
    let q : i + (1 + (size r + 0)) ≡ i + 1 + size r = omega arith in
    searched_done (steps_child l (binary₂ k) 0) _ _ _ (λ _. done_found r l (i + 1) d) ∙ searched_found (steps_child l (binary₂ k) 1) _ _ _ s (rw q at e)
found_filled l (first₃ k f u v) t i p (s, _) e = searched_found (steps_child l (ternary₃ k) 0) _ _ _ s e
found_filled l (second₃ k f r v) t i p (s, (d, _)) e =
    let q : i + (1 + (size r + 0)) ≡ i + 1 + size r = omega arith in
    searched_done (steps_child l (ternary₃ k) 0) _ _ _ (λ _. done_found r l (i + 1) d) ∙ searched_found (steps_child l (ternary₃ k) 1) _ _ _ s (rw q at e)
found_filled l (third₃ k f r u) t i p (s, (d, (c, _))) e =
    let q : i + (1 + (size r + (size u + 0))) ≡ i + 1 + size r + size u = omega arith in
    searched_done (steps_child l (ternary₃ k) 0) _ _ _ (λ _. done_found r l (i + 1) d)
    ∙ searched_done (steps_child l (ternary₃ k) 1) _ _ _ (λ _. done_found u l (i + 1 + size r) c) ∙ searched_found (steps_child l (ternary₃ k) 2) _ _ _ s (rw q at e)

found_plugged : (l : ℕ) (C : Context) (t : Term) (i p : ℕ) → Evaluation l C → find (level_at l C) t (i + left_size C) ≡ Redex p → find l (plug C t) i ≡ Redex p
unfolding plug level_at left_size Evaluation
found_plugged l [] t i p h e = let q : i + 0 ≡ i = omega arith in rw q at e
found_plugged l (F ∷ C) t i p (s, h) e =
    let q : i + (left_size C + (1 + sizes (children_before F))) ≡ i + left_size C + (1 + sizes (children_before F)) = omega arith in
    found_plugged l C (fill F t) i p h (found_filled (level_at l C) F t (i + left_size C) p s (rw q at e))

-- A term that makes a step has its redex where the search says.
step_located : {types : Table} {l : ℕ} {t : Term} (m : Next) → Step types l m.event t m.term → (i : ℕ) → (p : ℕ) × (find l t i ≡ Redex p) × Located l t i p
step_located {l = l} m d i =
    let z = focused d in
    let r = contraction_ready z.contraction in
    let c = contracts_kind z.contraction in (
      i + left_size z.context,
      ap (λ x. find l x i) z.before ∙ found_plugged l z.context z.redex i _ z.evaluation (ready_found _ z.redex _ r c),
      record { context = z.context; redex = z.redex; same = z.before; evaluation = z.evaluation; place = refl; ready = r; contracted = subst T (sym c) tt },
    )

module _ (types : Table) (l : ℕ) (Γ : Env) (t : Term) (i : ℕ) (b : l ≤ 1) (y : Later Γ) (h : Typed types Γ l t) where
  pub found_done : (e : ℕ) → find l t i ≡ Done e → T (done l t) × (e ≡ i + size t)
  found_done e q = ⊎_elim (λ d. (d, done_ends l t i e q)) (λ (m, d). let (p, f, _) = step_located m d i in let no : ◌≡◌ {A = ℕ} 0 1 = cc in absurd (omega arith)) (done_or_steps types l Γ t b y h)

  pub found_redex : (p : ℕ) → find l t i ≡ Redex p → Located l t i p
  found_redex p q = ⊎_elim (λ d. let f = done_found t l i d in let no : ◌≡◌ {A = ℕ} 0 1 = cc in absurd (omega arith))
      (λ (m, d). let (o, f, z) = step_located m d i in let e : o ≡ p = cc in rw e at z) (done_or_steps types l Γ t b y h)
