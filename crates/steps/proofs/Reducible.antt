-- The redex of a typed term in its evaluation context, whether it is whole or a match that is open: what it is rewritten to, and the next term.
use Prim.Native.Nat.{ℕ}
use mathlib.Core.Bool.{false}
use mathlib.Core.List.{List, [], ◌∷◌}
use mathlib.Core.Path.{◌≡◌, sym, ap, subst, ◌∙◌}
use lib.Dec.{T}
use Rattle.rules.specs.Kinds.{Ternary, ternary₃}
use Rattle.rules.specs.Terms.{Fields, Term, ternary, root_kind}
use Rattle.rules.specs.Types.{Table, NoTwins}
use Rattle.rules.specs.Typing.{Typed}
use Rattle.rules.specs.Values.{value}
use Rattle.rules.specs.Contractions.{Contraction, contracts}
use Rattle.rules.specs.Steps.{at_root, further}
use Rattle.rules.specs.Next.{Next}
use Rattle.rules.specs.Format.{Record}
use Rattle.contexts.specs.Contexts.{first₃, Context, plug, level_at, left_size, Evaluation}
use Rattle.contexts.specs.Moving.{Ready}
use Rattle.contexts.proofs.Focused.{focus_contracts, contracted_next, contracted_no_value, contracted_typed}
use Rattle.zipper.specs.declared.focus.Focus.{Focus}
use Rattle.navigation.specs.Ascending.{Held}
use Rattle.steps.specs.Stepping.{Becomes}

pub record Reducible (types : Table) (C : Context) (t whole : Term) : Type 0 where
  pub evaluation : Evaluation 0 C
  pub same : plug C t ≡ whole
  pub typed : Typed types [] 0 whole
  pub ready : Ready (level_at 0 C) t
  pub contracted : T (contracts (level_at 0 C) (root_kind t))

module _ (types : Table) (rs : List Record) (z : Focus) where
  pub whole_reducible : (level : ℕ) (C : Context) (t whole : Term) → Held types rs z level C t whole → Ready (level_at 0 C) t → T (contracts (level_at 0 C) (root_kind t))
      → Reducible types C t whole
  whole_reducible level C t whole h r c = record { evaluation = h.evaluation; same = h.same; typed = h.typed; ready = r; contracted = c }

  pub open_reducible : (k : Ternary) (f : Fields) (s e : Term) (C : Context) (q whole : Term) → Held types rs z 0 (first₃ k f s e ∷ C) q whole → level_at 0 C ≡ 0
      → Ready 0 (ternary k f q s e) → T (contracts 0 (ternary₃ k)) → Reducible types C (ternary k f q s e) whole
  unfolding plug Evaluation
  open_reducible k f s e C q whole h l r c = record { evaluation = h.evaluation.1; same = h.same; typed = h.typed; ready = rw l r; contracted = subst (λ n. T (contracts n (ternary₃ k))) (sym l) c }

module _ (types : Table) (C : Context) (t whole : Term) (h : Reducible types C t whole) where
  abbrev pub contraction_of : (m : Next) × Contraction types (level_at 0 C) m.event.rule m.event.replaced t m.term
  contraction_of = focus_contracts types C t h.evaluation (rw h.same h.typed) h.ready h.contracted

  -- What it becomes, by its rule.
  abbrev pub outcome : Next
  outcome = contraction_of.0

  pub contraction : Contraction types (level_at 0 C) outcome.event.rule outcome.event.replaced t outcome.term
  contraction = contraction_of.1

  pub no_value : value whole ≡ false
  no_value = ap value (sym h.same) ∙ contracted_no_value types C t outcome.term _ _ h.evaluation contraction

  unfoldable pub becomes : Becomes types whole (plug C outcome.term)
  becomes = record {
    no_value = no_value;
    event = further (left_size C) (at_root outcome.event.rule outcome.event.replaced);
    is_next = rw h.same at (contracted_next types C t outcome.term _ _ h.evaluation contraction);
  }

  pub typed_after : NoTwins types → Typed types [] 0 (plug C outcome.term)
  typed_after unlike = contracted_typed types C t outcome.term _ _ h.evaluation contraction unlike (rw h.same h.typed)
