-- `apply`, `unroll`, `lift` and `plan_whole`: a law for each thing that their bodies ask. `rewriting` for search.
use Prim.Native.Nat.{ℕ, ◌+◌, ◌^◌, ◌≤◌, ◌<◌}
use native.Mathlib.Omega.{arith}
use mathlib.Core.List.{List, [], ◌∷◌}
use mathlib.Core.Logic.{inl}
use mathlib.Core.Path.{◌≡◌, refl, ap, sym, subst, ◌∙◌}
use lib.ListN.{length, get_or}
use mir.Syntax.{w64}
use mir.Val.{Fits}
use Rattle.std.proofs.lemmas.Grind.{common_steps}
use Rattle.rules.specs.Kinds.{number, function, fix, lift, quote, splice, application, kind_number, kind_of}
use Rattle.rules.specs.Terms.{Term, leaf, unary, root_kind, size}
use Rattle.rules.specs.Indices.{replaced, gave_way}
use Rattle.rules.specs.Types.{Table}
use Rattle.rules.specs.Contractions.{StepRule, on_application, on_fix, on_lift, on_splice, Contraction, apply, unroll, lifted, spliced, succeeds, fails}
use Rattle.rules.specs.Format.{Record, no_record}
use Rattle.rules.proofs.FreeBounds.{typed_bound}
use Rattle.rules.proofs.KindTable.{kind_back}
use Rattle.rules.proofs.RuleKinds.{rule_kind, rewrites_kind}
use Rattle.kinds.specs.Named.{kind_meant}
use Rattle.kinds.specs.declared.names.Kind.{Kind}
use Rattle.kinds.specs.declared.names.Kind.TheVariants.{Application, Fix, Lift}
use Rattle.records.specs.declared.Record.{Record as Read}
use Rattle.records.specs.Meant.{record_meant}
use Rattle.records.specs.View.{records_in}
use Rattle.records.proofs.Records.{records_length}
use Rattle.terms.specs.Preorder.{HasTree, Skips}
use Rattle.terms.specs.Measuring.{HasKind, KindIs}
use Rattle.terms.proofs.Readings.{tree_kind}
use Rattle.terms.proofs.Trees.{at_first, at_head, at_within}
use Rattle.substitution.specs.declared.arguments.Argument.TheVariants.{Quote}
use Rattle.contraction.specs.declared.plans.Plan.{Plan}
use Rattle.contraction.specs.declared.plans.Plan.TheVariants.{Tree, Made}
use Rattle.contraction.specs.declared.rule.Rule.TheVariants.{Application as ByApplication, Fix as ByFix, Lift as ByLift, Splice as BySplice}
use Rattle.contraction.specs.Naming.{rule_named}
use Rattle.contraction.specs.Plans.{Planned, itself, anew, PlansTree}
use Rattle.contraction.specs.Redexes.{RedexAt, HasRedex, PlansRedex, CanPlanWhole, TellsRule, PlansWhole}
use Rattle.contraction.proofs.Places.{Before, before_has, only_child, first_of_two, second_of_two}
use Rattle.contraction.proofs.Arguments.{quote_stands}

-- A redex stands before lo and is low: "10: index not below its binders".
redex_before : {types : Table} {rs : List Record} {s lo n : ℕ} {rule : StepRule} {u : Term} (h : RedexAt types rs s lo rule n u) → Before rs lo s h.redex
redex_before {types} h = record { there = h.there; upto = h.before; low = omega (arith, typed_bound types h.binders h.level h.redex h.typed, h.few) }

-- It becomes a body with ts for its variables.
data PlansTo (ts : List Term) (body : Term) : ℕ → Term → Type 0 where
  plans_to : PlansTo ts body (gave_way (length ts) 0 body) (replaced ts body)

planned_to : {rs : List Record} {i j lo hi end : ℕ} {q : Plan} {t body : Term} {n : ℕ} {u : Term} → PlansTo (t ∷ []) body n u → PlansTree rs i j q → Before rs lo i body → Before rs lo j t
    → Planned rs lo hi end q n u
planned_to plans_to plans h given = plans.is _ _ _ _ _ h.there (inl h.upto) h.low given.there given.upto given.low

-- It has two records at least.
redex_size : {types : Table} {l n : ℕ} {rule : StepRule} {t u : Term} → Contraction types l rule n t u → 2 ≤ size t
unfolding size
redex_size (apply f g b v _) = omega arith
redex_size (unroll f g b) = omega arith
redex_size (lifted f g) = omega arith
redex_size (spliced f g c _) = omega arith
redex_size (succeeds k f g c s e ts _ _) = omega arith
redex_size (fails k f g c s e _ _) = omega arith

module _ (bytes : List ℕ) (s : ℕ) (rule : StepRule) (h : HasRedex (records_in bytes) s rule) (l : length bytes < 2 ^ 64) where
  redex_room : s + 2 ≤ length (records_in bytes)
  redex_room = let v = h.found in omega (arith, at_within (records_in bytes) s v.redex v.there, redex_size v.contraction)

  pub child_fits : Fits w64 (s + 1)
  child_fits = omega (arith, redex_room, records_length bytes)

  pub grandchild_fits : Fits w64 (s + 2)
  grandchild_fits = omega (arith, redex_room, records_length bytes)

  pub behind_child_fits : Fits w64 (s + 1 + 1)
  behind_child_fits = omega (arith, redex_room, records_length bytes)

module _ (rs : List Record) (s : ℕ) where
  pub redex_in : (rule : StepRule) → HasRedex rs s rule → s < length rs
  redex_in rule h = let v = h.found in at_first rs s v.redex v.there

  -- An application's function, the function's body and the argument; a fix and its function's body. Each becomes that body.
  record Applied (lo n : ℕ) (u : Term) : Type 0 where
    function_of : Term
    body : Term
    argument : Term
    function_at : Before rs lo (s + 1) function_of
    body_at : Before rs lo (s + 2) body
    argument_at : Before rs lo (s + 1 + size function_of) argument
    becomes : PlansTo (argument ∷ []) body n u

  record Unrolled (lo n : ℕ) (u : Term) : Type 0 where
    redex : Term
    body : Term
    redex_at : Before rs lo s redex
    body_at : Before rs lo (s + 1 + 1) body
    becomes : PlansTo (redex ∷ []) body n u

  module _ {types : Table} {lo n : ℕ} {u : Term} where
    applied : RedexAt types rs s lo on_application n u → Applied lo n u
    applied h = go h.contraction (redex_before h)
      where
        go : {l n : ℕ} {t u : Term} → Contraction types l on_application n t u → Before rs lo s t → Applied lo n u
        go (apply f g b v _) h =
            let i = first_of_two rs lo s (s + 1) application f (unary function g b) v h refl in
            record {
              function_of = unary function g b;
              body = b;
              argument = v;
              function_at = i;
              body_at = only_child rs lo (s + 1) (s + 2) function g b (omega arith) i;
              argument_at = second_of_two rs lo s (s + 1 + size (unary function g b)) application f (unary function g b) v h refl;
              becomes = plans_to;
            }

    unrolled : RedexAt types rs s lo on_fix n u → Unrolled lo n u
    unrolled h = go h.contraction (redex_before h)
      where
        go : {l n : ℕ} {t u : Term} → Contraction types l on_fix n t u → Before rs lo s t → Unrolled lo n u
        go (unroll f g b) h = record {
          redex = unary fix f (unary function g b);
          body = b;
          redex_at = h;
          body_at = only_child rs lo (s + 1) (s + 1 + 1) function g b refl (only_child rs lo s (s + 1) fix f (unary function g b) refl h);
          becomes = plans_to;
        }

  pub function_there : HasRedex rs s on_application → HasTree rs (s + 1)
  function_there h = before_has (applied h.found).function_at

  pub body_of_function : HasRedex rs s on_application → HasTree rs (s + 2)
  body_of_function h = before_has (applied h.found).body_at

  pub body_of_fix : HasRedex rs s on_fix → HasTree rs (s + 1 + 1)
  body_of_fix h = before_has (unrolled h.found).body_at

  -- The plans of the rules.
  pub apply_plans : (a : ℕ) (q : Plan) → Skips rs (s + 1) a → PlansTree rs (s + 2) a q → PlansRedex rs s on_application q
  apply_plans a q k plans = record {
    is = λ types lo hi end n u h.
        let v = applied h in
        let e = k.is v.function_of v.function_at.there in
        planned_to v.becomes plans v.body_at (subst (λ i. Before rs lo i v.argument) (sym e) v.argument_at);
  }

  pub unroll_plans : (q : Plan) → PlansTree rs (s + 1 + 1) s q → PlansRedex rs s on_fix q
  unroll_plans q plans = record { is = λ types lo hi end n u h. let v = unrolled h in planned_to v.becomes plans v.body_at v.redex_at }

  pub lift_plans : (x : Read) → record_meant x ≡ get_or rs s no_record → PlansRedex rs s on_lift (Made (Quote (s + 1) x.ty))
  lift_plans x ex = record { is = λ types lo hi end n u h. go hi end h.contraction (redex_before h) }
    where
      go : {types : Table} {lo : ℕ} (hi end : ℕ) {l n : ℕ} {t u : Term} → Contraction types l on_lift n t u → Before rs lo s t → Planned rs lo hi end (Made (Quote (s + 1) x.ty)) n u
      go {lo = lo} hi end (lifted f g) h =
          let e : x.ty ≡ f.type = ap (λ y. y.fields.type) (ex ∙ at_head rs s (unary lift f (leaf number g)) h.there) in
          rw e (anew _ _ (quote_stands (only_child rs lo s (s + 1) lift f (leaf number g) refl h) hi f.type))

  splice_plans : PlansRedex rs s on_splice (Tree (s + 2) 0)
  splice_plans = record { is = λ types lo hi end n u h. go hi end h.contraction (redex_before h) }
    where
      go : {types : Table} {lo : ℕ} (hi end : ℕ) {l n : ℕ} {t u : Term} → Contraction types l on_splice n t u → Before rs lo s t → Planned rs lo hi end (Tree (s + 2) 0) n u
      go {lo = lo} hi end (spliced f g c _) h =
          let i = only_child rs lo (s + 1) (s + 2) quote g c (omega arith) (only_child rs lo s (s + 1) splice f (unary quote g c) refl h) in
          itself (s + 2) 0 c i.there (inl i.upto)

-- Which rule it is, by the kind k that is read: each kind that is no match has one.
abbrev rewritten_kind : StepRule → ℕ
rewritten_kind r = kind_number (rule_kind r)

same_rule : (q r : StepRule) → rule_kind q ≡ rule_kind r → rewritten_kind q < 9 → q ≡ r
same_rule q r e l = grind (arith, common_steps)

-- What is left where the other kinds are ruled out is a splice.
only_splice : (k : Kind) (r : StepRule) → kind_meant k ≡ rule_kind r → rewritten_kind r < 9 → (k ≡ Application → ⊥) → (k ≡ Fix → ⊥) → (k ≡ Lift → ⊥) → r ≡ on_splice
only_splice k r e l a b c = grind (arith, common_steps)

pub whole_known : (rs : List Record) (s : ℕ) → CanPlanWhole rs s → HasKind rs s
whole_known rs s v = tree_kind rs s (before_has (redex_before v.has.found))

module _ (rs : List Record) (s : ℕ) where
  module _ (k : Kind) (e : KindIs rs s k) where
    rule_read : {types : Table} {lo n : ℕ} {rule : StepRule} {u : Term} (h : RedexAt types rs s lo rule n u) → kind_meant k ≡ rule_kind rule
    rule_read h = e.is ∙ ap (λ y. kind_of y.kind) (at_head rs s h.redex h.there) ∙ kind_back (root_kind h.redex) ∙ rewrites_kind h.contraction

    low_kind : {types : Table} {lo n : ℕ} {rule : StepRule} {u : Term} (h : RedexAt types rs s lo rule n u) → kind_number (root_kind h.redex) < 9 → rewritten_kind rule < 9
    low_kind h z = omega (arith, ap kind_number (rewrites_kind h.contraction))

    module _ (r : StepRule) (w : kind_meant k ≡ rule_kind r) where
      rule_is : {types : Table} {lo n : ℕ} {rule : StepRule} {u : Term} (h : RedexAt types rs s lo rule n u) → kind_number (root_kind h.redex) < 9 → rule ≡ r
      rule_is {rule = rule} h z = same_rule rule r (sym (rule_read h) ∙ w) (low_kind h z)

      redex_there : CanPlanWhole rs s → HasRedex rs s r
      redex_there v = subst (HasRedex rs s) (rule_is v.has.found v.whole) v.has

      redex_planned : (q : Plan) → PlansRedex rs s r q → PlansWhole rs s q
      redex_planned q plans = record {
        is = λ types lo hi end rule n u h z. plans.is types lo hi end n u (subst (λ r. RedexAt types rs s lo r n u) (rule_is h z) h);
      }

      rule_told : TellsRule rs s (rule_named r)
      rule_told = record { is = λ types lo rule n u h z. ap rule_named (sym (rule_is h z)) }

    module _ (a : k ≡ Application → ⊥) (b : k ≡ Fix → ⊥) (c : k ≡ Lift → ⊥) where
      only_left : {types : Table} {lo n : ℕ} {rule : StepRule} {u : Term} (h : RedexAt types rs s lo rule n u) → kind_number (root_kind h.redex) < 9 → rule ≡ on_splice
      only_left {rule = rule} h z = only_splice k rule (rule_read h) (low_kind h z) a b c

      pub splice_told : TellsRule rs s BySplice
      splice_told = record { is = λ types lo rule n u h z. ap rule_named (sym (only_left h z)) }

      pub splice_left : PlansWhole rs s (Tree (s + 2) 0)
      splice_left = record { is = λ types lo hi end rule n u h z. (splice_plans rs s).is types lo hi end n u (subst (λ r. RedexAt types rs s lo r n u) (only_left h z) h) }

  module _ (e : KindIs rs s Application) where
    pub application_told : TellsRule rs s ByApplication
    application_told = rule_told Application e on_application refl

    pub application_there : CanPlanWhole rs s → HasRedex rs s on_application
    application_there = redex_there Application e on_application refl

    pub application_planned : (q : Plan) → PlansRedex rs s on_application q → PlansWhole rs s q
    application_planned = redex_planned Application e on_application refl

  module _ (e : KindIs rs s Fix) where
    pub fix_told : TellsRule rs s ByFix
    fix_told = rule_told Fix e on_fix refl

    pub fix_there : CanPlanWhole rs s → HasRedex rs s on_fix
    fix_there = redex_there Fix e on_fix refl

    pub fix_planned : (q : Plan) → PlansRedex rs s on_fix q → PlansWhole rs s q
    fix_planned = redex_planned Fix e on_fix refl

  module _ (e : KindIs rs s Lift) where
    pub lift_told : TellsRule rs s ByLift
    lift_told = rule_told Lift e on_lift refl

    pub lift_there : CanPlanWhole rs s → HasRedex rs s on_lift
    lift_there = redex_there Lift e on_lift refl

    pub lift_planned : (q : Plan) → PlansRedex rs s on_lift q → PlansWhole rs s q
    lift_planned = redex_planned Lift e on_lift refl

pub ruleset rewriting = (
  child_fits,
  grandchild_fits,
  behind_child_fits,
  redex_in,
  function_there,
  body_of_function,
  body_of_fix,
  apply_plans,
  unroll_plans,
  lift_plans,
  whole_known,
  application_told,
  application_there,
  application_planned,
  fix_told,
  fix_there,
  fix_planned,
  lift_told,
  lift_there,
  lift_planned,
  splice_told,
  splice_left,
)
