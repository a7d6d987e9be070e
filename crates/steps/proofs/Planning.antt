-- The redex that a state is at, as its plan is asked for: whole at the focus, or a match that is open.
use Prim.Native.Nat.{ℕ, ◌+◌, ◌≤◌, ◌<◌}
use native.Mathlib.Omega.{arith}
use mathlib.Core.List.{List, [], ◌∷◌}
use mathlib.Core.Path.{◌≡◌, refl, sym, ap, ◌∙◌}
use lib.Dec.{T}
use Rattle.rules.specs.Kinds.{number, variable, function, fix, lift, quote, splice, application, Match, match, Kind, leaf₀, unary₁, binary₂, ternary₃, kind_number, child_count}
use Rattle.rules.specs.Terms.{Fields, Term, ternary, root_kind, size}
use Rattle.rules.specs.Types.{Table, NoTwins}
use Rattle.rules.specs.Contractions.{contracts}
use Rattle.rules.specs.Next.{Next}
use Rattle.rules.specs.Format.{Record}
use Rattle.contexts.specs.Contexts.{first₃, Context, plug, level_at, binders_at}
use Rattle.contexts.specs.Moving.{Ready}
use Rattle.contexts.proofs.Inside.{typed_inside, bounded_inside}
use Rattle.terms.specs.Children.{sizes}
use Rattle.terms.proofs.Trees.{first_tree, later_trees}
use Rattle.zipper.specs.declared.focus.Focus.{Focus}
use Rattle.zipper.specs.declared.focus.Ahead.{Ahead}
use Rattle.zipper.specs.Moving.{IsHole, Drops}
use Rattle.navigation.specs.Ascending.{Held}
use Rattle.zipper.proofs.Places.{laid_few, at_start, frame_read, next_ones}
use Rattle.contraction.specs.declared.plans.Plan.{Plan}
use Rattle.contraction.specs.declared.rule.Rule.{Rule}
use Rattle.contraction.specs.Redexes.{RedexAt, CanPlanWhole, TellsRule, PlansWhole}
use Rattle.matching.specs.Matches.{OpenMatch, HasMatch, TellsMatchRule, PlansMatch}
use Rattle.steps.specs.declared.state.State.{State}
use Rattle.steps.specs.Stepping.{Runs}
use Rattle.steps.specs.Contracting.{Contracting}
use Rattle.steps.proofs.Reducible.{Reducible, whole_reducible, open_reducible, outcome, contraction, becomes, typed_after}

-- Only matches have three children, and they have the highest numbers.
few_children : (k : Kind) → child_count k ≤ 2 → kind_number k < 9
few_children (leaf₀ number) l = omega arith
few_children (leaf₀ variable) l = omega arith
few_children (unary₁ function) l = omega arith
few_children (unary₁ fix) l = omega arith
few_children (unary₁ lift) l = omega arith
few_children (unary₁ quote) l = omega arith
few_children (unary₁ splice) l = omega arith
few_children (binary₂ application) l = omega arith
few_children (ternary₃ k) l = absurd (omega arith)

-- The focus is the redex.
module _ (types : Table) (rs : List Record) (z : Focus) (level : ℕ) (C : Context) (t whole : Term) (h : Held types rs z level C t whole) (r : Ready (level_at 0 C) t) (c : T (contracts (level_at 0 C) (root_kind t))) where
  abbrev reduces : Reducible types C t whole
  reduces = whole_reducible types rs z level C t whole h r c

  abbrev made : Next
  made = outcome types C t whole reduces

  whole_at : RedexAt types rs z.s z.l made.event.rule made.event.replaced made.term
  whole_at =
      let few : size whole ≤ 2048 = rw h.same at (laid_few rs C t z.s z.l z.r z.top h.laid) in
      let held_in : size (plug C t) ≡ size whole = ap size h.same in
      record {
        binders = binders_at 0 [] C;
        level = level_at 0 C;
        redex = t;
        contraction = contraction types C t whole reduces;
        typed = typed_inside types 0 [] C t (rw h.same h.typed);
        few = omega (arith, bounded_inside 0 [] C t);
        there = record { there = h.laid.focus };
        before = omega (arith, h.laid.end);
      }

  pub whole_plans : child_count (root_kind t) ≤ 2 → CanPlanWhole rs z.s
  unfolding whole_at
  whole_plans n = record {
    rule = made.event.rule;
    has = record { types = types; lo = z.l; replaced = made.event.replaced; contractum = made.term; found = whole_at };
    whole = few_children (root_kind t) n;
  }

  pub whole_contracting : (s : State) → Runs types rs s whole → NoTwins types → child_count (root_kind t) ≤ 2 → (rule : Rule) → TellsRule rs z.s rule → (plan : Plan) → PlansWhole rs z.s plan
      → (hole : Ahead) → IsHole z level hole → Contracting types rs s (record { rule = rule; plan = plan; free = z.l; hole = hole }) whole
  unfolding whole_at becomes
  whole_contracting s runs unlike n rule g plan p hole o = rw o.is (record {
    runs = runs;
    context = C;
    contractum = made.term;
    becomes = becomes types C t whole reduces;
    typed = typed_after types C t whole reduces unlike;
    around = h.laid.around;
    evaluation = h.evaluation;
    at_level = h.at_level;
    end = z.r;
    ruled = g.is types z.l made.event.rule made.event.replaced made.term whole_at (few_children (root_kind t) n);
    planned = p.is types z.l z.r z.r made.event.rule made.event.replaced made.term whole_at (few_children (root_kind t) n);
    placed = omega (arith, h.laid.around.start);
    after_hole = omega (arith, h.laid.end);
    gap = h.laid.gap;
    before_right = omega arith;
  })

-- The focus is the code of the match that is the redex.
module _ (types : Table) (rs : List Record) (z : Focus) (m : Match) (f : Fields) (v e : Term) (C : Context) (q whole : Term) (h : Held types rs z 0 (first₃ (match m) f v e ∷ C) q whole)
    (l : level_at 0 C ≡ 0) (r : Ready 0 (ternary (match m) f q v e)) (c : T (contracts 0 (ternary₃ (match m)))) where
  abbrev redex : Term
  redex = ternary (match m) f q v e

  abbrev opens : Reducible types C redex whole
  opens = open_reducible types rs z (match m) f v e C q whole h l r c

  abbrev chosen : Next
  chosen = outcome types C redex whole opens

  open_at : (end : ℕ) → end ≡ z.r + size v + size e → OpenMatch types rs z.top z.l z.r end chosen.event.replaced chosen.term
  unfolding plug sizes
  open_at end g =
      let few : size whole ≤ 2048 = rw h.same at (laid_few rs _ q z.s z.l z.r z.top h.laid) in
      let held_in : size (plug C redex) ≡ size whole = ap size h.same in
      let a = h.laid.around in
      let start = at_start rs _ C z.s z.r z.top a in
      let after = next_ones rs _ C z.s z.r z.top a in
      let code_at : z.top + 1 ≡ z.s = omega arith in
      record {
        kind = m;
        fields = f;
        code = q;
        success = v;
        failure = e;
        binders = binders_at 0 [] C;
        level = level_at 0 C;
        rule = chosen.event.rule;
        contraction = contraction types C redex whole opens;
        typed = typed_inside types 0 [] C redex (rw h.same h.typed);
        few = omega (arith, bounded_inside 0 [] C redex);
        kind_held = ap (λ x. x.kind) (frame_read rs _ C z.s z.r z.top a).1;
        fields_held = ap (λ x. x.fields) (frame_read rs _ C z.s z.r z.top a).1;
        code_there = rw code_at (record { there = h.laid.focus });
        before = omega (arith, h.laid.end);
        success_there = first_tree rs z.r v (e ∷ []) after;
        failure_there = first_tree rs (z.r + size v) e [] (later_trees rs z.r v (e ∷ []) after);
        upto = omega (arith, g);
      }

  pub open_plans : HasMatch types rs z.top z.r
  open_plans = record {
    lo = z.l;
    end = z.r + size v + size e;
    replaced = chosen.event.replaced;
    contractum = chosen.term;
    found = open_at (z.r + size v + size e) refl;
  }

  pub open_contracting : (s : State) → Runs types rs s whole → NoTwins types → (rule : Rule) → TellsMatchRule types rs z.top z.r rule → (plan : Plan) → PlansMatch types rs z.top z.r rule plan
      → (hole : Ahead) → Drops rs z hole → Contracting types rs s (record { rule = rule; plan = plan; free = z.l; hole = hole }) whole
  unfolding becomes open_at
  open_contracting s runs unlike rule b plan p hole d =
      let g = d.end (match m) f v e C q h.laid in
      let start = at_start rs _ C z.s z.r z.top h.laid.around in
      let ruled = b.is z.l hole.r chosen.event.replaced chosen.term (open_at hole.r g) in
      record {
        runs = runs;
        context = C;
        contractum = chosen.term;
        becomes = becomes types C redex whole opens;
        typed = typed_after types C redex whole opens unlike;
        around = d.hole (match m) f v e C q h.laid;
        evaluation = opens.evaluation;
        at_level = d.level ∙ sym l;
        end = z.r;
        ruled = ruled;
        planned = p.is z.l hole.r chosen.event.replaced chosen.term (open_at hole.r g) ruled;
        placed = omega (arith, (d.hole (match m) f v e C q h.laid).start);
        after_hole = omega (arith, d.left, start, h.laid.end);
        gap = h.laid.gap;
        before_right = omega (arith, g);
      }
