-- `opened_at` and `success`: a law for each thing that their bodies ask. `succeeding` for search.
use Prim.Native.Nat.{ℕ, ◌+◌}
use native.Mathlib.Omega.{arith}
use mathlib.Core.List.{List, [], ◌∷◌}
use mathlib.Core.Bool.{Bool, true, false}
use mathlib.Core.Logic.{inr}
use mathlib.Core.Option.{none, some}
use mathlib.Core.Path.{◌≡◌, refl, ap, subst, ◌∙◌}
use lib.Dec.{eqb}
use lib.ListN.{length, get_or}
use Rattle.std.specs.Prelude.{Some}
use Rattle.rules.specs.Lists.{pick}
use Rattle.rules.specs.Kinds.{number, function, fix, application, Match, kind_of}
use Rattle.rules.specs.Terms.{Term, leaf, type_of, number_held, size}
use Rattle.rules.specs.Indices.{replaced, gave_way}
use Rattle.rules.specs.Types.{Table, part_a, part_b}
use Rattle.rules.specs.Matching.{quoted, opened, matched}
use Rattle.rules.specs.Format.{Record, no_record}
use Rattle.rules.proofs.RuleKinds.{seeks}
use Rattle.kinds.specs.Named.{kind_meant}
use Rattle.kinds.specs.declared.names.Kind.{Kind as NamedKind}
use Rattle.kinds.specs.declared.names.Kind.TheVariants.{MatchApplication, MatchLift, MatchFunction, MatchFix}
use Rattle.records.specs.declared.Record.{Record as Read}
use Rattle.records.specs.Meant.{record_meant}
use Rattle.terms.specs.Preorder.{HasTree, Skips}
use Rattle.substitution.specs.declared.arguments.Argument.{Argument}
use Rattle.substitution.specs.declared.arguments.Argument.TheVariants.{Quote, Opened}
use Rattle.substitution.specs.declared.arguments.Arguments.{Arguments}
use Rattle.contraction.specs.declared.plans.Plan.{Plan}
use Rattle.contraction.specs.declared.plans.Plan.TheVariants.{Tree}
use Rattle.contraction.specs.Plans.{Stands, AllStand, only_one, Planned, itself, PlansBody, PlansTree}
use Rattle.matching.specs.Matches.{MatchRedex, taken, CodeAt, CanSucceed, PlansSuccess, IsOpened}
use Rattle.contraction.proofs.Places.{Before, before_has, only_child, first_of_two, second_of_two}
use Rattle.contraction.proofs.Arguments.{quote_stands, opened_stands, one_stands, two_stand}
use Rattle.contraction.proofs.Unchanged.{replaced_none, none_replaced}
use Rattle.matching.proofs.Candidates.{Candidate, same_number, same_variable, an_application, a_number_lem, a_function, a_fix, candidate}
use Rattle.matching.proofs.Reading.{code_before, fields_read, kind_known}

-- A test that gave something gave that.
test_gave : (b : Bool) (ts us : List Term) → pick b (some ts) none ≡ some us → ts ≡ us
test_gave true ts us e = cc
test_gave false ts us e = let z : ◌≡◌ {A = ℕ} 0 1 = cc in absurd (omega arith)

pub success_there : (types : Table) (rs : List Record) (p hi : ℕ) → CanSucceed types rs p hi → HasTree rs hi
success_there types rs p hi v = record { tree = v.success; there = v.there.there }

-- The record x of the match is read, of kind k.
module _ (types : Table) (rs : List Record) (p hi : ℕ) (x : Read) (ex : record_meant x ≡ get_or rs p no_record) (k : NamedKind) (ek : kind_meant k ≡ kind_of x.kind) where
  candidate_by : (i : NamedKind) → k ≡ i → (lo : ℕ) (m : MatchRedex) (ts : List Term) → CodeAt types rs p lo m → taken types m ≡ some ts → Candidate i m.kind m.code
  candidate_by i w lo m ts h e =
      subst (λ i. Candidate i m.kind m.code) w (candidate k m.kind m.code (ek ∙ kind_known types rs p lo m h x ex) (seeks types m.kind m.fields m.code ts e))

  pub function_there : CanSucceed types rs p hi → k ≡ MatchApplication → HasTree rs (p + 3)
  function_there v w =
      let s = v.there in
      go (candidate_by MatchApplication w v.lo v.found v.bound s.code s.matches) (code_before types p v.lo v.found rs s.code)
    where
      go : {lo : ℕ} {j : Match} {c : Term} → Candidate MatchApplication j c → Before rs lo (p + 2) c → HasTree rs (p + 3)
      go {lo = lo} (an_application g t u) h = before_has (first_of_two rs lo (p + 2) (p + 3) application g t u h (omega arith))

  -- Where code c is taken by a match of kind i, binding ts, P holds of these.
  abbrev Takes : NamedKind → (ℕ → List Term → Type 0) → Type 0
  Takes i P = (lo : ℕ) (j : Match) (c : Term) → Candidate i j c → Before rs lo (p + 2) c → (ts : List Term) → matched types j (record_meant x).fields c ≡ some ts → P lo ts

  taking : (i : NamedKind) (P : ℕ → List Term → Type 0) → k ≡ i → Takes i P → (lo : ℕ) (m : MatchRedex) (ts : List Term) → CodeAt types rs p lo m → taken types m ≡ some ts → P lo ts
  taking i P w takes lo m ts h e =
      takes lo m.kind m.code (candidate_by i w lo m ts h e) (code_before types p lo m rs h) ts (ap (λ f. matched types m.kind f m.code) (fields_read types rs p lo m h x ex) ∙ e)

  -- A match that binds one or two variables: the arguments g stand for them.
  bound_by : (i : NamedKind) (g : Arguments) (q : Plan) → k ≡ i → PlansBody rs hi g q → ((h : ℕ) → Takes i (λ lo ts. AllStand rs lo h g ts)) → PlansSuccess types rs p hi q
  bound_by i g q w plans given = record {
    is = λ lo end m ts s h.
        plans.is lo hi end s ts h.there (inr (omega arith, h.before)) h.low (taking i (λ lo ts. AllStand rs lo hi g ts) w (given hi) lo m ts h.code h.matches);
  }

  pub success_of_application : (a : ℕ) (q : Plan) → k ≡ MatchApplication → Skips rs (p + 3) a
      → PlansBody rs hi (record { first = Quote a x.b; second = Some (Quote (p + 3) x.a) }) q → PlansSuccess types rs p hi q
  unfolding matched
  success_of_application a q w sk plans = bound_by MatchApplication _ q w plans go
    where
      go : (h : ℕ) → Takes MatchApplication (λ lo ts. AllStand rs lo h (record { first = Quote a x.b; second = Some (Quote (p + 3) x.a) }) ts)
      go h lo j c (an_application f t u) code ts e =
          let first = first_of_two rs lo (p + 2) (p + 3) application f t u code (omega arith) in
          let y : a ≡ p + 3 + size t = sk.is t first.there in
          let second = second_of_two rs lo (p + 2) a application f t u code (omega arith) in
          subst (AllStand rs lo h (record { first = Quote a x.b; second = Some (Quote (p + 3) x.a) }))
          (test_gave (eqb (type_of u) (part_a types x.b)) (quoted x.b u ∷ quoted x.a t ∷ []) ts e)
          (two_stand (quote_stands second h x.b) (quote_stands first h x.a))

  -- One variable, and what it stands for.
  one_by : (i : NamedKind) (g : Argument) (q : Plan) → k ≡ i → PlansBody rs hi (only_one g) q → ((h : ℕ) → Takes i (λ lo ts. (t : Term) × (t ∷ [] ≡ ts) × Stands rs lo h g t)) → PlansSuccess types rs p hi q
  one_by i g q w plans given = bound_by i (only_one g) q w plans
      (λ h lo j c z code ts e. let (t, y, stands) = given h lo j c z code ts e in subst (AllStand rs lo h (only_one g)) y (one_stands stands))

  pub success_of_lift : (q : Plan) → k ≡ MatchLift → PlansTree rs hi (p + 2) q → PlansSuccess types rs p hi q
  unfolding matched
  success_of_lift q w plans = record {
    is = λ lo end m ts s h.
        let (t, e, b) = taking MatchLift (λ lo ts. (t : Term) × (t ∷ [] ≡ ts) × Before rs lo (p + 2) t) w go lo m ts h.code h.matches in
        subst (λ ts. Planned rs lo hi end q (gave_way (length ts) 0 s) (replaced ts s)) e
        (plans.is lo hi end s t h.there (inr (omega arith, h.before)) h.low b.there b.upto b.low);
  }
    where
      go : Takes MatchLift (λ lo ts. (t : Term) × (t ∷ [] ≡ ts) × Before rs lo (p + 2) t)
      go lo j c (a_number_lem f) code ts e = (leaf number f, test_gave true (leaf number f ∷ []) ts e, code)

  pub success_of_function : (g : Argument) (q : Plan) → k ≡ MatchFunction → IsOpened types (p + 3) x.a g → PlansBody rs hi (only_one g) q → PlansSuccess types rs p hi q
  unfolding matched
  success_of_function g q w o plans = one_by MatchFunction (Opened (p + 3) x.a (part_a types x.a) (part_b types x.a)) q w (subst (λ g. PlansBody rs hi (only_one g) q) o.is plans) go
    where
      go : (h : ℕ) → Takes MatchFunction (λ lo ts. (t : Term) × (t ∷ [] ≡ ts) × Stands rs lo h (Opened (p + 3) x.a (part_a types x.a) (part_b types x.a)) t)
      go h lo j c (a_function f t) code ts e =
          (opened types x.a t, test_gave true (opened types x.a t ∷ []) ts e, opened_stands (only_child rs lo (p + 2) (p + 3) function f t (omega arith) code) h types x.a)

  pub success_of_fix : (q : Plan) → k ≡ MatchFix → PlansBody rs hi (only_one (Quote (p + 3) x.a)) q → PlansSuccess types rs p hi q
  unfolding matched
  success_of_fix q w plans = one_by MatchFix (Quote (p + 3) x.a) q w plans go
    where
      go : (h : ℕ) → Takes MatchFix (λ lo ts. (t : Term) × (t ∷ [] ≡ ts) × Stands rs lo h (Quote (p + 3) x.a) t)
      go h lo j c (a_fix f t) code ts e = (quoted x.a t, test_gave true (quoted x.a t ∷ []) ts e, quote_stands (only_child rs lo (p + 2) (p + 3) fix f t (omega arith) code) h x.a)

  -- A match that binds nothing.
  pub success_binds_none : (k ≡ MatchApplication → ⊥) → (k ≡ MatchLift → ⊥) → (k ≡ MatchFunction → ⊥) → (k ≡ MatchFix → ⊥) → PlansSuccess types rs p hi (Tree hi 0)
  unfolding matched
  success_binds_none a l f y = record {
    is = λ lo end m ts s h.
        let e = taking k (λ lo ts. [] ≡ ts) refl (λ lo j c z code ts e. go k j c a l f y z ts e) lo m ts h.code h.matches in
        subst (λ ts. Planned rs lo hi end (Tree hi 0) (gave_way (length ts) 0 s) (replaced ts s)) e
        (rw (replaced_none s, none_replaced s) (itself hi 0 s h.there (inr (omega arith, h.before))));
  }
    where
      go : (i : NamedKind) (j : Match) (c : Term) → (i ≡ MatchApplication → ⊥) → (i ≡ MatchLift → ⊥) → (i ≡ MatchFunction → ⊥) → (i ≡ MatchFix → ⊥) → Candidate i j c → (ts : List Term) → matched types j (record_meant x).fields c ≡ some ts → [] ≡ ts
      go i j c a l f y (same_number g) ts e = test_gave (eqb (number_held g) (number_held (record_meant x).fields)) [] ts e
      go i j c a l f y (same_variable g) ts e = test_gave (eqb g.a x.a) [] ts e
      go i j c a l f y (an_application g t u) ts e = absurd (a refl)
      go i j c a l f y (a_number_lem g) ts e = absurd (l refl)
      go i j c a l f y (a_function g t) ts e = absurd (f refl)
      go i j c a l f y (a_fix g t) ts e = absurd (y refl)

pub ruleset succeeding = (success_there, function_there, success_of_application, success_of_lift, success_of_function, success_of_fix, success_binds_none)
