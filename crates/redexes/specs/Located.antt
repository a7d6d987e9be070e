-- The place of a redex in a term.
use Rattle.std.specs.Prelude.{ℕ, ◌+◌, ◌≡◌, T}
use Rattle.rules.specs.Terms.{Term, root_kind}
use Rattle.rules.specs.Contractions.{contracts}
use Rattle.contexts.specs.Contexts.{Context, plug, level_at, left_size, Evaluation}
use Rattle.contexts.specs.Moving.{Ready}

-- In the tree t, which stands at i and at level l, the record at p is rewritten: it is the root of the tree in the hole of an evaluation context,
-- the children that it steps are done, and its kind is one that is rewritten at its level.
pub record Located (l : ℕ) (t : Term) (i p : ℕ) : Type 0 where
  pub context : Context
  pub redex : Term
  pub same : t ≡ plug context redex
  pub evaluation : Evaluation l context
  pub place : p ≡ i + left_size context
  pub ready : Ready (level_at l context) redex
  pub contracted : T (contracts (level_at l context) (root_kind redex))
