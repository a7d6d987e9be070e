-- A step is a contraction in an evaluation context, and the other way round. A term has one place for it.
use Prim.Native.Nat.{ℕ, ◌+◌}
use native.Mathlib.Omega.{arith}
use native.Mathlib.Nat.{zero-add}
use mathlib.Core.List.{[], ◌∷◌, ◌++◌}
use mathlib.Core.Bool.{false}
use mathlib.Core.Option.{some}
use mathlib.Core.Path.{◌≡◌, refl, sym, ap, ◌∙◌}
use lib.Dec.{T}
use Rattle.rules.specs.Terms.{Term, root_kind}
use Rattle.rules.specs.Types.{Table, NoTwins}
use Rattle.rules.specs.Typing.{Typed}
use Rattle.rules.specs.Values.{value}
use Rattle.rules.specs.Contractions.{StepRule, Contraction, contracts}
use Rattle.rules.specs.Steps.{Event, at_root, further, here, Step}
use Rattle.rules.specs.Next.{Next, next}
use Rattle.rules.proofs.General.{is_false}
use Rattle.rules.proofs.Agree.{same_event, rests, agree}
use Rattle.rules.proofs.Preserved.{preserved}
use Rattle.terms.specs.Children.{sizes}
use Rattle.contexts.specs.Contexts.{children_before, Context, plug, level_at, binders_at, left_size, Evaluation}
use Rattle.contexts.specs.Moving.{Ready}
use Rattle.contexts.specs.Focused.{Focused}
use Rattle.contexts.proofs.Contexts.{plug_append, level_append, left_append, evaluation_append, by_frames, step_plugged}
use Rattle.contexts.proofs.Moving.{ready_redex}
use Rattle.contexts.proofs.Inside.{levels_low, later_inside, typed_inside}

module _ {types : Table} where
  -- The redex of a step of the focus is the redex of the whole term.
  pub focused_inside : (l : ℕ) (C : Context) {e : Event} {t u : Term} → Evaluation l C → Focused types (level_at l C) e t u → Focused types l (further (left_size C) e) (plug C t) (plug C u)
  focused_inside l C h z = let D = z.context in record {
    context = D ++ C;
    redex = z.redex;
    contractum = z.contractum;
    before = ap (plug C) z.before ∙ sym (plug_append D C z.redex);
    after = ap (plug C) z.after ∙ sym (plug_append D C z.contractum);
    evaluation = evaluation_append l D C z.evaluation h;
    contraction = rw (level_append l D C) z.contraction;
    place = omega (arith, z.place, left_append D C);
  }

  -- A step is a contraction in an evaluation context.
  pub focused : {l : ℕ} {e : Event} {t u : Term} → Step types l e t u → Focused types l e t u
  unfolding plug level_at left_size Evaluation
  focused d = by_frames types (Focused types)
      (λ l n r t u c. record { context = []; redex = t; contractum = u; before = refl; after = refl; evaluation = tt; contraction = c; place = refl })
      (λ l F e t u p _ z. rw (← zero-add (1 + sizes (children_before F))) (focused_inside l (F ∷ []) (p, tt) z)) d

  -- A contraction in an evaluation context is a step.
  pub contracts_plugged : (l : ℕ) (C : Context) {n : ℕ} {r : StepRule} {t u : Term} → Evaluation l C → Contraction types (level_at l C) r n t u
      → Step types l (further (left_size C) (at_root r n)) (plug C t) (plug C u)
  contracts_plugged l C h c = step_plugged types l C h (here c)

  -- A term has one such place at most: where two contractions can be made in it, they are made at one record.
  pub placed_once : (l : ℕ) (C D : Context) {n m : ℕ} {r q : StepRule} {t u v w : Term} → Evaluation l C → Contraction types (level_at l C) r n t u
      → Evaluation l D → Contraction types (level_at l D) q m v w → plug C t ≡ plug D v → left_size C ≡ left_size D
  placed_once l C D {m = m} {q = q} {t = t} {w = w} h c k d e =
      let s : Step types l (further (left_size D) (at_root q m)) (plug C t) (plug D w) = rw e (contracts_plugged l D k d) in
      omega (arith, ap (λ x. x.place) (same_event types (contracts_plugged l C h c) s))

-- The focus of a term that keeps the rules.
module _ (types : Table) (C : Context) (t : Term) (v : Evaluation 0 C) (h : Typed types [] 0 (plug C t)) where
  -- It is rewritten, where the children that it steps are done and its kind is one that is rewritten.
  pub focus_contracts : Ready (level_at 0 C) t → T (contracts (level_at 0 C) (root_kind t)) → (m : Next) × Contraction types (level_at 0 C) m.event.rule m.event.replaced t m.term
  focus_contracts = ready_redex types (level_at 0 C) (binders_at 0 [] C) t (levels_low 0 C (omega arith)) (later_inside 0 [] C v tt) (typed_inside types 0 [] C t h)

-- The term in which a contraction is made in an evaluation context: it is no value, its next term is the contractum in the context, and that keeps the
-- rules too.
module _ (types : Table) (C : Context) (t u : Term) (r : StepRule) (n : ℕ) (v : Evaluation 0 C) (c : Contraction types (level_at 0 C) r n t u) where
  pub contracted_next : next types 0 (plug C t) ≡ some (record { event = further (left_size C) (at_root r n); term = plug C u })
  contracted_next = (agree types 0 (further (left_size C) (at_root r n)) (plug C t) (plug C u)).1 (contracts_plugged 0 C v c)

  pub contracted_no_value : value (plug C t) ≡ false
  contracted_no_value = is_false (value (plug C t)) (rests types (contracts_plugged 0 C v c))

  pub contracted_typed : NoTwins types → Typed types [] 0 (plug C t) → Typed types [] 0 (plug C u)
  contracted_typed unlike h = (preserved types unlike (contracts_plugged 0 C v c) [] h).0
