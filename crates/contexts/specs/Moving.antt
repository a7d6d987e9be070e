-- Where the focus is done: what its frame's record does then.
use Rattle.std.specs.Prelude.{ℕ, suc, List, [], ◌∷◌, ◌++◌, ◌≡◌, T}
use Rattle.rules.specs.Kinds.{Kind}
use Rattle.rules.specs.Terms.{Term, root_kind}
use Rattle.rules.specs.Typing.{first_level}
use Rattle.rules.specs.Values.{done}
use Rattle.rules.specs.Contractions.{contracts}
use Rattle.rules.specs.Steps.{steps_child}
use Rattle.terms.specs.Children.{kids}
use Rattle.contexts.specs.Contexts.{Frame, fill, frame_kind, frame_fields, children_before, children_after, StepsHole}

-- Of the children ts of a record of kind k at level l, from child i on, each that the record steps is done.
unfoldable pub Settled : ℕ → Kind → ℕ → List Term → Type 0
Settled l k i [] = Unit {0}
Settled l k i (t ∷ ts) = (T (steps_child l k i) → T (done (first_level k l) t)) × Settled l k (suc i) ts

-- "Then:" the children that the root steps at level l are done.
abbrev pub Ready : ℕ → Term → Type 0
Ready l t = Settled l (root_kind t) 0 (kids t)

-- The hole of F moves on from t to the next child: the same tree, and the record steps that child next.
pub record MovedOn (l : ℕ) (F : Frame) (t : Term) : Type 0 where
  pub frame : Frame
  pub child : Term
  pub same : fill F t ≡ fill frame child
  pub kind : frame_kind F ≡ frame_kind frame
  pub fields : frame_fields F ≡ frame_fields frame
  pub before : children_before frame ≡ children_before F ++ (t ∷ [])
  pub after : children_after F ≡ child ∷ children_after frame
  pub steps : StepsHole l frame

-- Where the tree t in the hole of F is done, "then its second": the hole moves on; or F's record is rewritten, as the children that it steps are
-- done; or it is done itself.
pub data Onward (l : ℕ) (F : Frame) (t : Term) : Type 0 where
  moves : MovedOn l F t → Onward l F t
  contracted : Ready l (fill F t) → T (contracts l (frame_kind F)) → Onward l F t
  ended : T (done l (fill F t)) → Onward l F t
