-- A step keeps the term's type, and what it makes is rightly typed.
use Prim.Native.Nat.{ℕ}
use native.Mathlib.Omega.{arith}
use mathlib.Core.List.{List}
use mathlib.Core.Bool.{Bool, true}
use mathlib.Core.Option.{Option, none, some}
use mathlib.Core.Path.{◌≡◌, refl, ap, sym, subst, ◌∙◌}
use lib.Dec.{T, eqb, eqb→eq}
use Rattle.rules.specs.Kinds.{number, variable, function, fix, lift, quote, splice, application, Match, match, kind_of, numbered}
use Rattle.rules.specs.Terms.{Fields, Term, leaf, unary, binary, ternary, type_of, number_held}
use Rattle.rules.specs.Binders.{binds₁, binds₃}
use Rattle.rules.specs.Types.{Table, Entry, Nat, Fn, NoTwins, part_a, part_b}
use Rattle.rules.specs.Conditions.{Holds}
use Rattle.rules.specs.Typing.{Env, under, pattern, Typed}
use Rattle.rules.specs.Values.{plain}
use Rattle.rules.specs.Matching.{if_of_kind, matched, opened, quoted}
use Rattle.rules.specs.Contractions.{StepRule, Contraction, apply, unroll, lifted, spliced, succeeds, fails}
use Rattle.rules.specs.Steps.{Event, StepWhere, here, in_child, in_first, in_second, in_first₃, in_second₃, in_third₃, StepsWhere, still, more}
use Rattle.rules.proofs.RuleKinds.{match_at, if_of_kind_lem}
use Rattle.rules.proofs.Tables.{entry_in}
use Rattle.rules.proofs.Facts.{Has}
use Rattle.rules.proofs.Moves.{Args, nothing, also, substituted, wrapped_keeps}

-- What a match binds fits its variables.
abbrev Taken : Table → Env → List ℕ → Option (List Term) → Type 0
Taken types Γ ns none = Unit {0}
Taken types Γ ns (some ts) = Args types Γ ns ts

taking_args : (types : Table) (Γ : Env) (k : Match) (f : Fields) (C n : ℕ) (b : Bool) (ts : List Term) (o : Option (List Term))
    → (T b → Holds (pattern types Γ (match_at n) f C) → Args types Γ (binds₃ (match (match_at n)) f) ts)
    → Holds (pattern types Γ k f C) → Taken types Γ (binds₃ (match k) f) o → Taken types Γ (binds₃ (match k) f) (if_of_kind k n b ts o)
taking_args types Γ k f C n b ts o args pat rest = if_of_kind_lem (Taken types Γ (binds₃ (match k) f)) k n b ts o (λ e t. rw e (args t (rw e at pat))) rest

-- The parts of equal entries.
first : {x : Entry} (y z : Entry) → x ≡ y → x ≡ z → y.a ≡ z.a
first y z p q = ap (λ r. r.a) (sym p ∙ q)

second : {x : Entry} (y z : Entry) → x ≡ y → x ≡ z → y.b ≡ z.b
second y z p q = ap (λ r. r.b) (sym p ∙ q)

module _ (types : Table) (unlike : NoTwins types) where
  matched_args : (Γ : Env) (k : Match) (f : Fields) (c : Term) → T (plain c) → Typed types Γ 1 c → Holds (pattern types Γ k f (type_of c)) → Taken types Γ (binds₃ (match k) f) (matched types k f c)
  unfolding matched plain Typed kind_of numbered
  matched_args Γ k f (leaf number g) pl h pat =
      taking_args types Γ k f g.type 9 (eqb (number_held g) (number_held f)) _ _ (λ _ _. nothing) pat
      (taking_args types Γ k f g.type 12 true _ none (λ _ (c, (a, _)). also (leaf number g) (h, unlike g.type f.a Nat (omega arith) c a) nothing) pat tt)
  matched_args Γ k f (leaf variable g) pl h pat = taking_args types Γ k f g.type 10 (eqb g.a f.a) _ none (λ _ _. nothing) pat tt
  matched_args Γ k f (unary function g t) pl ((_, _, p, (q, _)), h) pat = taking_args types Γ k f g.type 13 true _ none
      (λ _ (_, (fn, (a, (b, _)))). let (w, e) = wrapped_keeps types Γ g.a (part_a types f.a) (cc) t pl h in
      also (opened types f.a t) ((((entry_in types f.a fn (omega arith), (entry_in types (part_a types f.a) a (omega arith), (refl, (refl, tt)))), tt, tt, (fn, tt)), (((entry_in types (part_b types f.a) b (omega arith), (refl, (refl, (refl, tt)))), tt, (refl, tt), ((cc), tt)), w)), refl) nothing) pat tt
  matched_args Γ k f (unary fix g t) pl ((_, _, p, (q, _)), h) pat = taking_args types Γ k f g.type 14 true _ none
      (λ _ (a, (fn, _)). also (quoted f.a t) ((((entry_in types f.a a (omega arith), (refl, (refl, (refl, tt)))), tt, (refl, tt), (rw (unlike (type_of t) (part_a types f.a) (Fn g.type g.type) (omega arith) q fn) a, tt)), h), refl) nothing) pat tt
  matched_args Γ k f (unary lift g t) pl h pat = tt
  matched_args Γ k f (unary quote g t) pl h pat = tt
  matched_args Γ k f (unary splice g t) pl h pat = tt
  matched_args Γ k f (binary application g t u) pl ((_, _, _, (q, _)), h, j) pat = taking_args types Γ k f g.type 11 (eqb (type_of u) (part_a types f.b)) _ none
      (λ s (b, (a, (fn, _))). let e = eqb→eq (type_of u) (part_a types f.b) s in
      also (quoted f.b u) ((((entry_in types f.b b (omega arith), (refl, (refl, (refl, tt)))), tt, (refl, tt), (rw e b, tt)), j), refl)
      (also (quoted f.a t) ((((entry_in types f.a a (omega arith), (refl, (refl, (refl, tt)))), tt, (refl, tt), (rw (unlike (type_of t) (part_a types f.a) (Fn (part_a types f.b) g.type) (omega arith) (rw e at q) fn) a, tt)), h), refl) nothing)) pat tt
  matched_args Γ k f (ternary k' g t s e) pl h pat = tt

  -- A rewritten record keeps its type, and what it becomes keeps the rules.
  contraction_preserved : {l n : ℕ} {r : StepRule} {t u : Term} → Contraction types l r n t u → (Γ : Env) → Typed types Γ l t → Has types Γ l (type_of t) u
  unfolding Typed
  contraction_preserved (apply f g b v _) Γ ((_, _, _, (q, _)), ((_, _, _, (q', _)), h), j) =
      let (k, e) = substituted (also v (j, first _ _ q q') nothing) 0 b h in (k, e ∙ second _ _ q' q)
  contraction_preserved (unroll f g b) Γ w =
      let (k, e) = substituted (also _ (w, first _ _ w.0.3.0 w.1.0.3.0) nothing) 0 b w.1.1 in (k, e ∙ second _ _ w.1.0.3.0 w.0.3.0)
  contraction_preserved (lifted f g) Γ ((o, b, p, (_, q)), h) = ((((o.0, (refl, (refl, (refl, tt)))), b, p, q), h), refl)
  contraction_preserved (spliced f g c _) Γ ((_, _, _, (q, _)), ((_, _, _, (q', _)), h)) = (h, first _ _ q' q)
  contraction_preserved (succeeds k f g c s e ts pl eq) Γ ((_, _, _, (s≡, (_, (d, pat)))), ((_, _, _, (q', _)), h), j, m) =
      let (x, i) = substituted (subst (Taken types Γ (binds₃ (match k) f)) eq (matched_args Γ k f c pl h (rw (first _ _ d q') at pat))) 0 s j in (x, i ∙ s≡)
  contraction_preserved (fails k f g c s e pl eq) Γ ((_, _, _, (_, (e≡, _))), h, j, m) = (m, e≡)

  -- So does each step, in whatever order.
  pub preserved : {ready : ℕ → Term → Type 0} {l : ℕ} {e : Event} {t u : Term} → StepWhere types ready l e t u → (Γ : Env) → Typed types Γ l t → Has types Γ l (type_of t) u
  unfolding Typed
  preserved (here c) Γ h = contraction_preserved c Γ h
  preserved (in_child l k f _ d) Γ ((o, b, p, q), h) = let (h', e) = preserved d (under l (binds₁ k f) Γ) h in (((o, b, p, rw e q), h'), refl)
  preserved (in_first l k f u _ d) Γ ((o, b, p, q), h, j) = let (h', e) = preserved d Γ h in (((o, b, p, rw e q), h', j), refl)
  preserved (in_second l k f t _ _ d) Γ ((o, b, p, q), h, j) = let (j', e) = preserved d Γ j in (((o, b, p, rw e q), h, j'), refl)
  preserved (in_first₃ l k f u v _ d) Γ ((o, b, p, q), h, j, m) = let (h', e) = preserved d Γ h in (((o, b, p, rw e q), h', j, m), refl)
  preserved (in_second₃ l k f t v _ _ d) Γ ((o, b, p, q), h, j, m) = let (j', e) = preserved d (under 0 (binds₃ k f) Γ) j in (((o, b, p, rw e q), h, j', m), refl)
  preserved (in_third₃ l k f t u _ _ _ d) Γ ((o, b, p, q), h, j, m) = let (m', e) = preserved d Γ m in (((o, b, p, rw e q), h, j, m'), refl)

  pub run_preserved : {ready : ℕ → Term → Type 0} {es : List Event} {t u : Term} → StepsWhere types ready es t u → (Γ : Env) → Typed types Γ 0 t → Has types Γ 0 (type_of t) u
  run_preserved still Γ h = (h, refl)
  run_preserved (more s r) Γ h = let (k, e) = preserved s Γ h in let (k', e') = run_preserved r Γ k in (k', e' ∙ e)
