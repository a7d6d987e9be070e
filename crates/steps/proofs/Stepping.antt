-- `State::aim` and `State::step`: by what the state is at. `aiming` and `stepping` for search.
use Prim.Native.Nat.{◌+◌, ℕ, ◌-◌, ◌≤◌}
use native.Mathlib.Omega.{arith}
use mathlib.Core.Bool.{Bool, true, false}
use mathlib.Core.List.{List}
use mathlib.Core.Path.{◌≡◌, sym, subst, ◌∙◌}
use lib.Dec.{T, leb}
use borrow.Author.Tests.{leb-true, leb-false}
use Rattle.rules.specs.Kinds.{match}
use Rattle.rules.specs.Terms.{Term, size}
use Rattle.rules.specs.Types.{Table}
use Rattle.rules.specs.Format.{Record, most_records}
use Rattle.contexts.specs.Contexts.{plug}
use Rattle.zipper.specs.declared.focus.Focus.{Focus}
use Rattle.zipper.specs.declared.focus.Ahead.{Ahead}
use Rattle.navigation.specs.declared.ascending.Turn.{Turn}
use Rattle.navigation.specs.declared.ascending.Turn.TheVariants.{Next, Value, Redex, Match}
use Rattle.zipper.specs.Moving.{IsHole, HasMatch, Drops}
use Rattle.navigation.specs.Ascending.{Sought, redex, matched}
use Rattle.contraction.specs.declared.plans.Plan.{Plan}
use Rattle.contraction.specs.declared.rule.Rule.{Rule}
use Rattle.contraction.specs.Redexes.{CanPlanWhole, TellsRule, PlansWhole}
use Rattle.matching.specs.Matches.{HasMatch as HasOpen, TellsMatchRule, CanPlanMatch, PlansMatch}
use Rattle.contraction.specs.Making.{CanMeasure, TellsFits}
use Rattle.steps.specs.declared.state.State.{State}
use Rattle.steps.specs.declared.state.Advance.{Advance}
use Rattle.steps.specs.declared.state.Aim.{Aim}
use Rattle.std.specs.Prelude.{Some, None}
use Rattle.steps.specs.Stepping.{Runs, CanStep, too_large, Stepped}
use Rattle.steps.specs.Contracting.{Contracting, Aims, Roomy, CanProceed, Proceeds}
use Rattle.seeking.proofs.SearchLoop.{sought_over}
use Rattle.steps.proofs.Values.{sought_value}
use Rattle.steps.proofs.Contracting.{next_size, wide, inside}
use Rattle.steps.proofs.Planning.{whole_plans, whole_contracting, open_plans, open_contracting}

module _ (types : Table) (rs : List Record) (s : State) (h : CanStep types rs s) where
  -- The state is at x.
  at_turn : (x : Turn) → s.turn ≡ x → (t : Term) → Runs types rs s t → Sought types rs t x
  at_turn x e t k = subst (Sought types rs t) e k.found

  -- A redex that is whole.
  module _ (z : Focus) (level : ℕ) (e : s.turn ≡ Redex z level) where
    pub aim_plans : CanPlanWhole rs z.s
    aim_plans = go h.term (at_turn (Redex z level) e h.term h.runs)
      where
        go : (t : Term) → Sought types rs t (Redex z level) → CanPlanWhole rs z.s
        go t (redex _ _ C u k r c n) = whole_plans types rs z level C u t k r c n

    pub aim_whole : (rule : Rule) → TellsRule rs z.s rule → (plan : Plan) → PlansWhole rs z.s plan → (hole : Ahead) → IsHole z level hole → Aims types rs s (record { rule = rule; plan = plan; free = z.l; hole = hole })
    aim_whole rule g plan p hole o = record { does = λ t runs. go t runs (at_turn (Redex z level) e t runs) }
      where
        go : (t : Term) → Runs types rs s t → Sought types rs t (Redex z level) → Contracting types rs s (record { rule = rule; plan = plan; free = z.l; hole = hole }) t
        go t runs (redex _ _ C u k r c n) = whole_contracting types rs z level C u t k r c s runs h.unlike n rule g plan p hole o

  -- A match that is open.
  module _ (z : Focus) (e : s.turn ≡ Match z) where
    pub aim_matches : HasOpen types rs z.top z.r
    aim_matches = go h.term (at_turn (Match z) e h.term h.runs)
      where
        go : (t : Term) → Sought types rs t (Match z) → HasOpen types rs z.top z.r
        go t (matched _ (match m) f v w C q k l r c) = open_plans types rs z m f v w C q t k l r c

    pub aim_plans_match : (rule : Rule) → TellsMatchRule types rs z.top z.r rule → CanPlanMatch types rs z.top z.r rule
    aim_plans_match rule b = let v = aim_matches in record { has = v; ruled = b.is v.lo v.end v.replaced v.contractum v.found }

    pub aim_opens : HasMatch rs z
    aim_opens = go h.term (at_turn (Match z) e h.term h.runs)
      where
        go : (t : Term) → Sought types rs t (Match z) → HasMatch rs z
        go t (matched _ x f v w C q k l r c) = record { kind = x; fields = f; success = v; failure = w; context = C; code = q; laid = k.laid }

    pub aim_open : (rule : Rule) → TellsMatchRule types rs z.top z.r rule → (plan : Plan) → PlansMatch types rs z.top z.r rule plan → (hole : Ahead) → Drops rs z hole → Aims types rs s (record { rule = rule; plan = plan; free = z.l; hole = hole })
    aim_open rule b plan p hole d = record { does = λ t runs. go t runs (at_turn (Match z) e t runs) }
      where
        go : (t : Term) → Runs types rs s t → Sought types rs t (Match z) → Contracting types rs s (record { rule = rule; plan = plan; free = z.l; hole = hole }) t
        go t runs (matched _ (match m) f v e C q k l r c) = open_contracting types rs z m f v e C q t k l r c s runs h.unlike rule b plan p hole d

  -- What the state isn't at.
  pub aim_value : (z : Focus) → s.turn ≡ Value z → ⊥
  aim_value z e = absurd (subst T (sym (sought_value types rs h.term z (at_turn (Value z) e h.term h.runs)) ∙ h.no_value) tt)

  pub aim_next : (a : Ahead) → s.turn ≡ Next a → ⊥
  aim_next a e = absurd (sought_over types rs h.term (Next a) (at_turn (Next a) e h.term h.runs))

  -- What the focus becomes is made where it has room, and the state is stopped where it has none.
  module _ (a : Aim) (d : Aims types rs s a) where
    k₀ : Contracting types rs s a h.term
    k₀ = d.does h.term h.runs

    pub step_sides : a.hole.l ≤ a.hole.r
    step_sides = omega (arith, wide k₀)

    pub step_wide : most_records ≤ a.hole.r - a.hole.l
    step_wide = omega (arith, wide k₀)

    pub step_measures : CanMeasure rs a.plan
    step_measures = record { lo = a.free; hi = k₀.end; end = a.hole.r; replaced = k₀.becomes.event.replaced; contractum = k₀.contractum; planned = k₀.planned }

    module _ (b : Bool) (f : TellsFits rs a.plan (a.hole.r - a.hole.l - most_records) b) where
      test : {t : Term} (k : Contracting types rs s a t) → b ≡ leb (size k.contractum) (a.hole.r - a.hole.l - most_records)
      test k = f.is a.free k.end a.hole.r k.becomes.event.replaced k.contractum k.planned

      roomy : b ≡ true → {t : Term} (k : Contracting types rs s a t) → Roomy k
      roomy e k = omega (arith, leb-true (size k.contractum) _ (sym (test k) ∙ e), wide k)

      pub step_proceeds : b ≡ true → CanProceed rs s a
      step_proceeds e = record { types = types; whole = h.term; contracting = k₀; room = roomy e k₀; counts = h.counts }

      pub step_proceeded : b ≡ true → (rs' : List Record) (r : Advance) → Proceeds rs rs' s a r → Stepped types rs rs' s (Some (record { state = record { turn = Next r.next; steps = s.steps + 1 }; event = r.event }))
      step_proceeded e rs' r p = record { does = λ t k. p.does types t (d.does t k) (roomy e (d.does t k)) }

      pub step_full : b ≡ false → Stepped types rs rs s None
      step_full e = record {
        does = λ t runs.
            let k = d.does t runs in
            let large = leb-false (size k.contractum) _ (sym (test k) ∙ e) in
            too_large (plug k.context k.contractum) k.becomes (omega (arith, next_size k, wide k, inside k)) runs;
      }

pub ruleset aiming = (aim_plans, aim_whole, aim_matches, aim_plans_match, aim_opens, aim_open, aim_value, aim_next)

pub ruleset stepping = (step_sides, step_wide, step_measures, step_proceeds, step_proceeded, step_full)
