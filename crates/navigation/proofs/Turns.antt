-- `steps_next`, and a turn of `ascend`: from a focus that is done to what its frame's record does then. `telling` for search.
use Prim.Native.Nat.{ℕ, zero, suc, ◌+◌, ◌-◌, ◌*◌, ◌≤◌, ◌<◌}
use native.Mathlib.Omega.{arith}
use mathlib.Core.List.{List, [], ◌∷◌}
use mathlib.Core.Bool.{Bool, true, false}
use mathlib.Core.Logic.{◌≢◌}
use mathlib.Core.Path.{◌≡◌, refl, sym, ap, ap₂, ◌∙◌, subst}
use lib.Dec.{T, ltb, ltb→lt, eqb, eqb-suc-zero}
use Rattle.rules.specs.Kinds.{Ternary, match, ternary₃, child_count, kind_of}
use Rattle.rules.specs.Terms.{Fields, Term, ternary}
use Rattle.rules.specs.FreeBounds.{free_bound}
use Rattle.rules.specs.Types.{Table}
use Rattle.rules.specs.Values.{done}
use Rattle.rules.specs.Contractions.{contracts}
use Rattle.rules.specs.Steps.{stepping, steps_child}
use Rattle.rules.specs.Format.{Record}
use Rattle.rules.proofs.General.{picked}
use Rattle.rules.proofs.KindTable.{kind_back}
use Rattle.kinds.specs.declared.names.Kind.{Kind as NamedKind}
use Rattle.kinds.specs.Named.{kind_meant}
use Rattle.contexts.specs.Contexts.{Frame, only, first, second, first₃, second₃, third₃, fill, frame_kind, hole_number, hole_level, outer_level, StepsHole, Context, plug, level_at, left_size, Evaluation}
use Rattle.contexts.specs.Sides.{right_size}
use Rattle.contexts.specs.Moving.{Ready}
use Rattle.contexts.proofs.Contexts.{root_filled}
use Rattle.contexts.proofs.Moving.{moved_on as hole_moves, moved_inside, ready, frame_done}
use Rattle.contexts.proofs.Inside.{levels_low, outer_level_lem}
use Rattle.zipper.specs.declared.focus.Focus.{Focus}
use Rattle.navigation.specs.declared.ascending.Turn.TheVariants.{Next, Value, Redex, Match}
use Rattle.terms.specs.Measuring.{KindIs}
use Rattle.zipper.specs.Focusing.{LaidAt, HasFrame, CountsAfter, CanClose, Closes}
use Rattle.navigation.specs.Ascending.{Held, Rests, CanTellNext, TellsNext, Sought, valued, redex, matched, Turned, next}
use Rattle.zipper.proofs.Places.{at_start, frame_read}
use Rattle.zipper.proofs.Rows.{frame_known, counted}
use Rattle.zipper.proofs.Moves.{hole_moved}
use Rattle.zipper.proofs.Closing.{filled_low}

-- The frame's kind, from what is read at its place.
frame_kind_lem : (rs : List Record) (z : Focus) (k : NamedKind) → KindIs rs z.top k → (F : Frame) (C : Context) (t : Term) → LaidAt rs z (F ∷ C) t → kind_meant k ≡ frame_kind F
frame_kind_lem rs z k kd F C t h = kd.is ∙ ap (λ x. kind_of x.kind) (frame_read rs F C z.s z.r z.top h.around).1 ∙ kind_back (frame_kind F)

-- `steps_next`
module _ (rs : List Record) (z : Focus) (k : NamedKind) (c after : ℕ) (kd : KindIs rs z.top k) (n : c ≡ child_count (kind_meant k)) (ca : CountsAfter rs z after) where
  next_is : (F : Frame) (C : Context) (t : Term) → LaidAt rs z (F ∷ C) t → c ≡ suc (hole_number F) + after
  next_is F C t h = omega (arith, counted rs z k c kd n F C t h, ca.is F C t h)

  pub next_down : (level : ℕ) → CanTellNext rs z level → after ≤ c
  next_down level h = omega (arith, next_is h.holds.frame h.holds.context h.holds.focus h.holds.laid)

  pub next_told : (level x : ℕ) → x ≡ stepping level (kind_meant k) → TellsNext rs z level (ltb (c - after) x)
  next_told level x e = record {
    is = λ F C t h.
        let i : c - after ≡ suc (hole_number F) = omega (arith, next_is F C t h) in
        let j : x ≡ stepping level (frame_kind F) = e ∙ ap (stepping level) (frame_kind_lem rs z k kd F C t h) in
        rw (i, j);
  }

pub ruleset telling = (frame_known, next_down, next_told)

-- Some focus of the same term is done.
pub record RestsIn (types : Table) (rs : List Record) (z : Focus) (level : ℕ) (whole : Term) : Type 0 where
  pub context : Context
  pub focus : Term
  pub rests : Rests types rs z level context focus whole

-- And it has a frame.
pub record Framed (types : Table) (rs : List Record) (z : Focus) (level : ℕ) (whole : Term) : Type 0 where
  pub frame : Frame
  pub context : Context
  pub focus : Term
  pub rests : Rests types rs z level (frame ∷ context) focus whole

-- A focus that starts at 0 has no frame, and any other has.
module _ {types : Table} {rs : List Record} {z : Focus} {level : ℕ} {whole : Term} where
  pub framed : z.s ≢ 0 → RestsIn types rs z level whole → Framed types rs z level whole
  unfolding left_size
  framed n q = go q.context q.focus q.rests
    where
      go : (C : Context) (t : Term) → Rests types rs z level C t whole → Framed types rs z level whole
      go [] t h = absurd (n h.held.laid.around.start)
      go (F ∷ C) t h = record { frame = F; context = C; focus = t; rests = h }

  pub outermost : z.s ≡ 0 → RestsIn types rs z level whole → Sought types rs whole (Value z)
  unfolding plug level_at left_size Evaluation
  outermost e q = go q.context q.focus q.rests
    where
      go : (C : Context) (t : Term) → Rests types rs z level C t whole → Sought types rs whole (Value z)
      go [] t h = valued z (rw h.held.same at h.is_done) (record {
        laid = rw h.held.same at h.held.laid;
        evaluation = tt;
        at_level = refl;
        same = refl;
        typed = h.held.typed;
      })
      go (F ∷ C) t h = absurd (omega (arith, h.held.laid.around.start))

-- A match steps its code at level 0, and no other child.
match_level : (l : ℕ) (k : Ternary) → T (steps_child l (ternary₃ k) 0) → l ≡ 0
match_level zero k s = refl
match_level (suc l) (match k) s = absurd (rw (eqb-suc-zero l) at s)

match_later : (l : ℕ) (k : Ternary) (i : ℕ) → T (steps_child l (ternary₃ k) (suc i)) → ⊥
match_later l (match k) i s =
    let few : stepping l (ternary₃ (match k)) ≤ 1 = picked (λ n. n ≤ 1) (eqb l 0) (λ _. omega arith) (λ _. omega arith) in
    omega (arith, ltb→lt (suc i) (stepping l (ternary₃ (match k))) s)

match_contracts : (k : Ternary) → T (contracts 0 (ternary₃ k))
match_contracts (match k) = tt

-- The search stops at a match that stays open.
module _ {types : Table} {rs : List Record} {z : Focus} (l : ℕ) (C : Context) (t whole : Term) where
  pub match_stops : (k : Ternary) (f : Fields) (s e : Term) → level_at 0 C ≡ 0 → Ready (level_at 0 C) (ternary k f t s e) → Held types rs z l (first₃ k f s e ∷ C) t whole
      → Sought types rs whole (Match z)
  unfolding level_at
  match_stops k f s e q y h = matched z k f s e C t (subst (λ x. Held types rs z x (first₃ k f s e ∷ C) t whole) (h.at_level ∙ q) h) q
      (subst (λ x. Ready x (ternary k f t s e)) q y) (match_contracts k)

  frame_stops : (F : Frame) → child_count (frame_kind F) ≡ 3 → StepsHole (level_at 0 C) F → Ready (level_at 0 C) (fill F t) → Held types rs z l (F ∷ C) t whole
      → Sought types rs whole (Match z)
  frame_stops (only k f) i s y h = absurd (omega arith)
  frame_stops (first k f u) i s y h = absurd (omega arith)
  frame_stops (second k f u) i s y h = absurd (omega arith)
  frame_stops (first₃ k f u v) i (s, _) y h = match_stops k f u v (match_level (level_at 0 C) k s) y h
  frame_stops (second₃ k f u v) i (s, _) y h = absurd (match_later (level_at 0 C) k 0 s)
  frame_stops (third₃ k f u v) i (s, _) y h = absurd (match_later (level_at 0 C) k 1 s)

-- What is known of a focus that is done and its frame.
module _ {types : Table} {rs : List Record} {z : Focus} {l : ℕ} {whole : Term} (f : Framed types rs z l whole) where
  abbrev F : Frame
  F = f.frame

  abbrev C : Context
  C = f.context

  abbrev t : Term
  t = f.focus

  abbrev pub frame_held : HasFrame rs z
  frame_held = record { frame = F; context = C; focus = t; laid = f.rests.held.laid }

  steps_hole : StepsHole (level_at 0 C) F
  unfolding Evaluation
  steps_hole = f.rests.held.evaluation.0

  outside : Evaluation 0 C
  unfolding Evaluation
  outside = f.rests.held.evaluation.1

  hole_done : T (done (hole_level F (level_at 0 C)) t)
  unfolding level_at
  hole_done = f.rests.is_done

  outer_is : outer_level (frame_kind F) l ≡ level_at 0 C
  unfolding level_at
  outer_is = ap (outer_level (frame_kind F)) f.rests.held.at_level ∙ outer_level_lem (level_at 0 C) F steps_hole

  same_filled : plug C (fill F t) ≡ whole
  unfolding plug
  same_filled = f.rests.held.same

  low_bound : 2 * free_bound (fill F t) + 1 < 65536
  low_bound = filled_low types rs z F C t f.rests.held.laid (rw f.rests.held.same f.rests.held.typed)

  pub frame_closes : CanClose rs z
  frame_closes = record { holds = frame_held; low = low_bound }

  module _ (k : NamedKind) (lv : ℕ) (kd : KindIs rs z.top k) (v : lv ≡ outer_level (kind_meant k) l) where
    kind_is : kind_meant k ≡ frame_kind F
    kind_is = frame_kind_lem rs z k kd F C t f.rests.held.laid

    level_is : lv ≡ level_at 0 C
    level_is = v ∙ ap (λ x. outer_level x l) kind_is ∙ outer_is

    pub frame_tells : CanTellNext rs z lv
    frame_tells = record { holds = frame_held; low = omega (arith, level_is, levels_low 0 C (omega arith)) }

    module _ (b : Bool) (tn : TellsNext rs z lv b) where
      next_steps : steps_child (level_at 0 C) (frame_kind F) (suc (hole_number F)) ≡ b
      next_steps = sym (tn.is F C t f.rests.held.laid ∙ ap (λ x. steps_child x (frame_kind F) (suc (hole_number F))) level_is)

      -- The hole moves on to the next child, which is the first tree after the gap.
      pub hole_goes_on : b ≡ true → (from : ℕ) → from ≤ z.r → Turned types rs from whole (Next (record { l = z.l; r = z.r; top = z.top; level = l }))
      hole_goes_on e from o =
          let on = hole_moves (level_at 0 C) F t steps_hole hole_done (rw (next_steps ∙ e) tt) in
          let (same, ev, lev) = moved_inside 0 F C t on f.rests.held.evaluation in
          next _ (on.frame ∷ C) on.child (record {
            laid = hole_moved (level_at 0 C) F t on rs C z.s z.l z.r z.top f.rests.held.laid;
            evaluation = ev;
            at_level = f.rests.held.at_level ∙ lev;
            same = sym same ∙ f.rests.held.same;
            typed = f.rests.held.typed;
          }) o

      module _ (e : b ≡ false) where
        now_ready : Ready (level_at 0 C) (fill F t)
        now_ready = ready (level_at 0 C) F t steps_hole hole_done (rw (next_steps ∙ e) tt)

        -- A match stays open.
        pub match_stays : child_count (kind_meant k) ≡ 3 → Sought types rs whole (Match z)
        match_stays three = frame_stops l C t whole F (sym (ap child_count kind_is) ∙ three) steps_hole now_ready f.rests.held

        -- Any other frame is closed.
        module _ (rs' : List Record) (r : Focus) (cl : Closes rs rs' z r) where
          now_held : Held types rs' r lv C (fill F t) whole
          now_held = record {
            laid = cl.does F C t f.rests.held.laid low_bound;
            evaluation = outside;
            at_level = level_is;
            same = same_filled;
            typed = f.rests.held.typed;
          }

          pub closed_outward : r.s < z.s
          closed_outward = omega (arith, cl.outward, at_start rs F C z.s z.r z.top f.rests.held.laid.around)

          pub closed_onward : z.r ≤ r.r
          unfolding right_size
          closed_onward = omega (arith, f.rests.held.laid.around.whole, now_held.laid.around.whole)

          module _ (y : Bool) (o : y ≡ contracts lv (kind_meant k)) where
            contracts_is : contracts (level_at 0 C) (frame_kind F) ≡ y
            contracts_is = sym (o ∙ ap₂ contracts level_is kind_is)

            pub closed_redex : y ≡ true → child_count (kind_meant k) ≤ 2 → Sought types rs' whole (Redex r lv)
            closed_redex q few =
                let (root, _) = root_filled F t in
                redex r lv C (fill F t) now_held now_ready (rw (root, contracts_is ∙ q) tt)
                (rw (root, ← kind_is) few)

            pub closed_done : y ≡ false → RestsIn types rs' r lv whole
            closed_done q = record {
              context = C;
              focus = fill F t;
              rests = record { held = now_held; is_done = frame_done (level_at 0 C) F t steps_hole now_ready (rw (contracts_is ∙ q) tt) };
            }
