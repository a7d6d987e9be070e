-- `reach`: the laws of going down to a redex and bringing it over the gap. `reaching` for search.
use Prim.Native.Nat.{ℕ, zero, suc}
use native.Mathlib.Omega.{arith}
use mathlib.Core.Bool.{Bool, true, false}
use mathlib.Core.List.{List, ◌∷◌, ◌++◌}
use mathlib.Core.Path.{◌≡◌, refl, sym, ap, ◌∙◌}
use lib.Dec.{T, eqb-suc-zero}
use Rattle.rules.specs.Kinds.{Ternary, match, ternary₃, child_count}
use Rattle.rules.specs.Terms.{Fields, Term, leaf, unary, binary, ternary, root_kind}
use Rattle.rules.specs.Types.{Table}
use Rattle.rules.specs.Contractions.{contracts}
use Rattle.rules.specs.Format.{Record}
use Rattle.contexts.specs.Contexts.{Frame, first₃, hole_level, Context, plug, level_at, Evaluation}
use Rattle.contexts.specs.Moving.{Ready}
use Rattle.contexts.proofs.Contexts.{plug_append, evaluation_append}
use Rattle.zipper.specs.declared.focus.Focus.{Focus}
use Rattle.zipper.specs.declared.focus.Ahead.{Ahead}
use Rattle.navigation.specs.declared.ascending.Turn.TheVariants.{Redex, Match}
use Rattle.kinds.specs.Named.{is_match}
use Rattle.kinds.proofs.Named.{match_children, other_children}
use Rattle.terms.specs.Measuring.{HasKind, MatchIs}
use Rattle.zipper.specs.Focusing.{AheadAt, HasAhead, Brings, CanOpen, Opens}
use Rattle.navigation.specs.Ascending.{HeldIn, HeldAhead, Sought, redex, RedexIn, CanReach, Reaches}
use Rattle.navigation.specs.Descending.{Towards, CanDescend, Descends}
use Rattle.terms.proofs.Trees.{kind_at}
use Rattle.terms.proofs.Readings.{tree_kind}
use Rattle.navigation.proofs.Turns.{match_stops}

-- A match is rewritten at level 0, where it steps its code.
contracted_level : (l : ℕ) (k : Ternary) → T (contracts l (ternary₃ k)) → l ≡ 0
contracted_level zero k c = refl
contracted_level (suc l) (match k) c = absurd (rw (eqb-suc-zero l) at c)

-- A tree with three children that is rewritten is a match, at level 0.
record MatchIn (types : Table) (rs : List Record) (x : Ahead) (whole : Term) : Type 0 where
  kind : Ternary
  fields : Fields
  code : Term
  success : Term
  failure : Term
  context : Context
  held : HeldAhead types rs x context (ternary kind fields code success failure) whole
  low : level_at 0 context ≡ 0
  is_ready : Ready (level_at 0 context) (ternary kind fields code success failure)

module _ {types : Table} {rs : List Record} {x : Ahead} {whole : Term} where
  match_in : (C : Context) (u : Term) → HeldAhead types rs x C u whole → Ready (level_at 0 C) u → T (contracts (level_at 0 C) (root_kind u)) → child_count (root_kind u) ≡ 3 → MatchIn types rs x whole
  match_in C (leaf k f) h r c e = absurd (omega arith)
  match_in C (unary k f t) h r c e = absurd (omega arith)
  match_in C (binary k f t u) h r c e = absurd (omega arith)
  match_in C (ternary k f q s o) h r c e = record {
    kind = k;
    fields = f;
    code = q;
    success = s;
    failure = o;
    context = C;
    held = h;
    low = contracted_level (level_at 0 C) k c;
    is_ready = r;
  }

  module _ (m : MatchIn types rs x whole) where
    -- It is opened, and its code brought over the gap.
    abbrev frame : Frame
    frame = first₃ m.kind m.fields m.success m.failure

    match_opens : CanOpen rs x 0
    match_opens = record { frame = frame; context = m.context; inner = m.code; laid = m.held.laid; hole = refl }

    module _ (rs₂ : List Record) (y : Ahead) (op : Opens rs rs₂ x 0 y) where
      code_at : AheadAt rs₂ y (frame ∷ m.context) m.code
      code_at = op.does frame m.context m.code m.held.laid refl

      code_ahead : HasAhead rs₂ y
      code_ahead = record { context = frame ∷ m.context; focus = m.code; laid = code_at }

      code_stops : (rs₃ : List Record) (z : Focus) → Brings rs₂ rs₃ y z → Sought types rs₃ whole (Match z)
      unfolding plug level_at Evaluation
      code_stops rs₃ z b = match_stops y.level m.context m.code whole m.kind m.fields m.success m.failure m.low m.is_ready (record {
        laid = b.does (frame ∷ m.context) m.code code_at;
        evaluation = ((rw m.low tt, tt), m.held.evaluation);
        at_level = op.level frame m.context m.code m.held.laid ∙ ap (hole_level frame) m.held.at_level;
        same = m.held.same;
        typed = m.held.typed;
      })

pub reach_descends : (rs : List Record) (a : Ahead) (p : ℕ) → CanReach rs a p → CanDescend rs a p
reach_descends rs a p h = let r = h.redex_in in
    record { inner = h.inner; context = h.context; tree = h.tree; towards = record { laid = r.held.laid; place = r.place; at_level = r.held.at_level } }

module _ (rs : List Record) (a : Ahead) (p : ℕ) (rs₁ : List Record) (x : Ahead) (d : Descends rs rs₁ a p x) where
  -- The redex is the focus.
  module _ (types : Table) (D C : Context) (u whole : Term) (h : RedexIn types rs a p D C u whole) where
    down : Towards rs a p D C u
    down = record { laid = h.held.laid; place = h.place; at_level = h.held.at_level }

    at_redex : AheadAt rs₁ x (D ++ C) u
    at_redex = d.does D C u down

    now_held : {Laid : Context → Term → Type 0} → Laid (D ++ C) u → HeldIn types Laid x.level (D ++ C) u whole
    now_held y = record {
      laid = y;
      evaluation = evaluation_append 0 D C h.evaluation h.held.evaluation;
      at_level = d.level D C u down;
      same = plug_append D C u ∙ h.held.same;
      typed = h.held.typed;
    }

    match_read : (b : Bool) → MatchIs rs₁ p b → is_match (root_kind u) ≡ b
    match_read b m = sym (m.is ∙ ap is_match (kind_at rs₁ p u (record { there = rw d.place at at_redex.focus })))

  first_at : (h : CanReach rs a p) → AheadAt rs₁ x (h.inner ++ h.context) h.tree
  first_at h = at_redex h.types h.inner h.context h.tree h.whole h.redex_in

  pub reach_known : CanReach rs a p → HasKind rs₁ p
  reach_known h = tree_kind rs₁ p (record { tree = h.tree; there = record { there = rw d.place at (first_at h).focus } })

  pub reach_brings : CanReach rs a p → HasAhead rs₁ x
  reach_brings h = record { context = h.inner ++ h.context; focus = h.tree; laid = first_at h }

  module _ (b : Bool) (told : MatchIs rs₁ p b) where
    pub reach_redex : b ≡ false → (rs₂ : List Record) (z : Focus) → Brings rs₁ rs₂ x z → Reaches rs rs₂ a p (Redex z x.level)
    reach_redex e rs₂ z g = record {
      does = λ types D C u whole h.
          redex z x.level (D ++ C) u (now_held types D C u whole h (g.does (D ++ C) u (at_redex types D C u whole h))) h.ready h.contracted
          (other_children (root_kind u) (match_read types D C u whole h b told ∙ e));
    }

    module _ (e : b ≡ true) where
      each : (types : Table) (D C : Context) (u whole : Term) → RedexIn types rs a p D C u whole → MatchIn types rs₁ x whole
      each types D C u whole h = match_in (D ++ C) u (now_held types D C u whole h (at_redex types D C u whole h)) h.ready h.contracted (match_children (root_kind u) (match_read types D C u whole h b told ∙ e))

      one : (h : CanReach rs a p) → MatchIn h.types rs₁ x h.whole
      one h = each h.types h.inner h.context h.tree h.whole h.redex_in

      pub reach_opens : CanReach rs a p → CanOpen rs₁ x 0
      reach_opens h = match_opens (one h)

      module _ (rs₂ : List Record) (y : Ahead) (op : Opens rs₁ rs₂ x 0 y) where
        pub reach_code : CanReach rs a p → HasAhead rs₂ y
        reach_code h = code_ahead (one h) rs₂ y op

        pub reach_match : (rs₃ : List Record) (z : Focus) → Brings rs₂ rs₃ y z → Reaches rs rs₃ a p (Match z)
        reach_match rs₃ z g = record { does = λ types D C u whole h. code_stops (each types D C u whole h) rs₂ y op rs₃ z g }

pub ruleset reaching = (reach_descends, reach_known, reach_brings, reach_redex, reach_opens, reach_code, reach_match)
