-- `match_rule` and `plan_match`: a law for each thing that their bodies ask. `ruling` and `outcomes` for search.
use Prim.Native.Nat.{ℕ, ◌+◌}
use native.Mathlib.Omega.{arith}
use mathlib.Core.List.{List}
use mathlib.Core.Bool.{Bool, true, false}
use mathlib.Core.Logic.{inr}
use mathlib.Core.Option.{Option, none, some}
use mathlib.Core.Path.{◌≡◌, refl, ap, sym, subst, ◌∙◌}
use lib.ListN.{length}
use Rattle.rules.specs.Kinds.{quote, Match, match_variable, match_shape, match_number, match_application, match_lift, match_function, match_fix, match, ternary₃, kind_of}
use Rattle.rules.specs.Terms.{Fields, Term, unary, ternary, size}
use Rattle.rules.specs.Indices.{replaced, gave_way}
use Rattle.rules.specs.Types.{Table}
use Rattle.rules.specs.Typing.{Typed}
use Rattle.rules.specs.Matching.{matched}
use Rattle.rules.specs.Contractions.{StepRule, on_success, on_failure, Contraction, succeeds, fails}
use Rattle.rules.specs.Format.{Record}
use Rattle.rules.proofs.FreeBounds.{typed_bound}
use Rattle.rules.proofs.KindTable.{kind_back}
use Rattle.kinds.specs.Named.{kind_meant}
use Rattle.kinds.specs.declared.names.Kind.{Kind}
use Rattle.terms.specs.Preorder.{HasTree, Skips}
use Rattle.terms.specs.Children.{kids}
use Rattle.terms.specs.Measuring.{Low, KindIs}
use Rattle.terms.proofs.Low.{low_kids}
use Rattle.contraction.specs.declared.plans.Plan.{Plan}
use Rattle.contraction.specs.declared.plans.Plan.TheVariants.{Tree}
use Rattle.contraction.specs.declared.rule.Rule.{Rule}
use Rattle.contraction.specs.declared.rule.Rule.TheVariants.{Success, Failure}
use Rattle.contraction.specs.Plans.{Planned, itself}
use Rattle.contraction.specs.Naming.{match_named, rule_named}
use Rattle.matching.proofs.Candidates.{named_once}
use Rattle.matching.specs.Matches.{OpenMatch, HasMatch, TellsMatchRule, CanPlanMatch, PlansMatch, MatchRedex, taken, is_some, CodeAt, HasCode, TellsMatch, CanSucceed, SuccessAt, PlansSuccess}

-- The name of a match's kind stands for that kind.
named_meant : (k : Match) → kind_meant (match_named k) ≡ ternary₃ (match k)
named_meant match_variable = refl
named_meant (match_shape match_number) = refl
named_meant (match_shape match_application) = refl
named_meant (match_shape match_lift) = refl
named_meant (match_shape match_function) = refl
named_meant (match_shape match_fix) = refl

-- What a match becomes, by what it takes: its success, or its failure.
data Becomes (k : Match) (s e : Term) : Option (List Term) → StepRule → ℕ → Term → Type 0 where
  succeeded : (ts : List Term) → Becomes k s e (some ts) (on_success k) (gave_way (length ts) 0 s) (replaced ts s)
  failed : Becomes k s e none (on_failure k) 0 e

-- It is over a quote.
record Quoted (types : Table) (k : Match) (f : Fields) (q s e : Term) (r : StepRule) (n : ℕ) (u : Term) : Type 0 where
  fields_of_quote : Fields
  code : Term
  is : q ≡ unary quote fields_of_quote code
  becomes : Becomes k s e (matched types k f code) r n u

quoted_code : {types : Table} {l n : ℕ} {r : StepRule} {k : Match} {f : Fields} {q s e u : Term} → Contraction types l r n (ternary (match k) f q s e) u → Quoted types k f q s e r n u
quoted_code (succeeds k f g c s e ts _ m) = record { fields_of_quote = g; code = c; is = refl; becomes = subst (λ o. Becomes k s e o (on_success k) (gave_way (length ts) 0 s) (replaced ts s)) (sym m) (succeeded ts) }
quoted_code (fails k f g c s e _ m) = record { fields_of_quote = g; code = c; is = refl; becomes = subst (λ o. Becomes k s e o (on_failure k) 0 e) (sym m) failed }

module _ (types : Table) (rs : List Record) (p hi : ℕ) where
  module _ {lo end n : ℕ} {u : Term} (h : OpenMatch types rs p lo hi end n u) where
    abbrev quoted_of : Quoted types h.kind h.fields h.code h.success h.failure h.rule n u
    quoted_of = quoted_code h.contraction

    abbrev redex_of : MatchRedex
    redex_of = record { kind = h.kind; fields = h.fields; fields_of_quote = quoted_of.fields_of_quote; code = quoted_of.code }

    -- "10: index not below its binders": its children are low.
    children_low : Low 4096 h.code × Low 4096 h.success × Low 4096 h.failure
    unfolding kids
    children_low =
        let t = ternary (match h.kind) h.fields h.code h.success h.failure in
        let (p, (q, (r, _))) = low_kids 4096 t (omega (arith, typed_bound types h.binders h.level t h.typed, h.few)) in
        (p, q, r)

    code_held : CodeAt types rs p lo redex_of
    unfolding Typed
    code_held = record {
      kind_held = h.kind_held;
      fields_held = h.fields_held;
      good = h.typed.0.0;
      there = rw quoted_of.is at h.code_there;
      before = rw quoted_of.is at h.before;
      low = rw quoted_of.is at children_low.0;
    }

    success_held : (ts : List Term) → taken types redex_of ≡ some ts → SuccessAt types rs p lo hi end redex_of ts h.success
    success_held ts e = record { code = code_held; matches = e; there = h.success_there; before = omega (arith, h.upto); low = children_low.1 }

  -- The rule, by the kind and by whether it matches its code.
  pub code_there : HasMatch types rs p hi → HasCode types rs p
  code_there v = record { lo = v.lo; found = redex_of v.found; there = code_held v.found }

  -- The name of its kind.
  kind_read : (q : Kind) → KindIs rs p q → {lo end n : ℕ} {u : Term} (h : OpenMatch types rs p lo hi end n u) → q ≡ match_named h.kind
  kind_read q kind h =
      named_once q (match_named h.kind) (kind.is ∙ ap kind_of h.kind_held ∙ kind_back (ternary₃ (match h.kind)) ∙ sym (named_meant h.kind))

  module _ (q : Kind) (kind : KindIs rs p q) (b : Bool) (tells : TellsMatch types rs p b) where
    told : {lo end n : ℕ} {u : Term} (h : OpenMatch types rs p lo hi end n u) → b ≡ is_some (taken types (redex_of h))
    told {lo} h = tells.is lo (redex_of h) (code_held h)

    pub success_told : b ≡ true → TellsMatchRule types rs p hi (Success q)
    success_told y = record { is = λ lo end n u h. go h (quoted_of h).becomes (sym y ∙ told h) }
      where
        go : {lo end n : ℕ} {u : Term} (h : OpenMatch types rs p lo hi end n u) {o : Option (List Term)} {r : StepRule} {i : ℕ} {t : Term} → Becomes h.kind h.success h.failure o r i t
            → true ≡ is_some o → Success q ≡ rule_named r
        go h (succeeded ts) z = ap Success (kind_read q kind h)
        go h failed z = cc

    pub failure_told : b ≡ false → TellsMatchRule types rs p hi (Failure q)
    failure_told y = record { is = λ lo end n u h. go h (quoted_of h).becomes (sym y ∙ told h) }
      where
        go : {lo end n : ℕ} {u : Term} (h : OpenMatch types rs p lo hi end n u) {o : Option (List Term)} {r : StepRule} {i : ℕ} {t : Term} → Becomes h.kind h.success h.failure o r i t
            → false ≡ is_some o → Failure q ≡ rule_named r
        go h (succeeded ts) z = cc
        go h failed z = ap Failure (kind_read q kind h)

pub ruleset ruling = (code_there, success_told, failure_told)

module _ (types : Table) (rs : List Record) (p hi : ℕ) (rule : Rule) where
  pub success_tree : CanPlanMatch types rs p hi rule → HasTree rs hi
  success_tree v = record { tree = v.has.found.success; there = v.has.found.success_there }

  module _ (k : Kind) (by : rule ≡ Success k) where
    -- Under a rule of success a match succeeds.
    succeeding : {k : Match} {s e : Term} {o : Option (List Term)} {r : StepRule} {n : ℕ} {u : Term} → Becomes k s e o r n u → rule ≡ rule_named r → (P : Option (List Term) → ℕ → Term → Type 0)
        → ((ts : List Term) → P (some ts) (gave_way (length ts) 0 s) (replaced ts s)) → P o n u
    succeeding (succeeded ts) e P h = h ts
    succeeding failed e P h = let z : ⊥ = cc in absurd z

    pub can_succeed : CanPlanMatch types rs p hi rule → CanSucceed types rs p hi
    can_succeed v =
        let h = v.has.found in
        succeeding (quoted_of types rs p hi h).becomes v.ruled (λ o n u. taken types (redex_of types rs p hi h) ≡ o → CanSucceed types rs p hi)
        (λ ts e. record { lo = v.has.lo; end = v.has.end; found = redex_of types rs p hi h; bound = ts; success = h.success; there = success_held types rs p hi h ts e }) refl

    pub match_succeeds : (q : Plan) → PlansSuccess types rs p hi q → PlansMatch types rs p hi rule q
    match_succeeds q plans = record {
      is = λ lo end n u h e.
          succeeding (quoted_of types rs p hi h).becomes e (λ o n u. taken types (redex_of types rs p hi h) ≡ o → Planned rs lo hi end q n u)
          (λ ts e. plans.is lo end (redex_of types rs p hi h) ts h.success (success_held types rs p hi h ts e)) refl;
    }

  pub match_fails : (e : ℕ) → ((k : Kind) → rule ≡ Success k → ⊥) → Skips rs hi e → PlansMatch types rs p hi rule (Tree e 0)
  match_fails e other k = record { is = λ lo end n u h z. go h (quoted_of types rs p hi h).becomes z }
    where
      go : {lo end n : ℕ} {u : Term} (h : OpenMatch types rs p lo hi end n u) {o : Option (List Term)} {r : StepRule} {j : ℕ} {t : Term} → Becomes h.kind h.success h.failure o r j t
          → rule ≡ rule_named r → Planned rs lo hi end (Tree e 0) j t
      go h (succeeded ts) z = absurd (other (match_named h.kind) z)
      go h failed z =
          let a = k.is h.success h.success_there in
          rw a (itself (hi + size h.success) 0 h.failure h.failure_there (inr (omega arith, omega (arith, h.upto))))

pub ruleset outcomes = (success_tree, can_succeed, match_succeeds, match_fails)
