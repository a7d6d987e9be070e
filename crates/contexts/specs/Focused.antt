-- A step seen from the record that it rewrites.
use Rattle.std.specs.Prelude.{ℕ, ◌+◌, ◌≡◌}
use Rattle.rules.specs.Terms.{Term}
use Rattle.rules.specs.Types.{Table}
use Rattle.rules.specs.Contractions.{Contraction}
use Rattle.rules.specs.Steps.{Event}
use Rattle.contexts.specs.Contexts.{Context, plug, level_at, left_size, Evaluation}

-- The step from t to u at level l with event e: in an evaluation context the redex becomes the contractum, by the event's rule and at its place.
pub record Focused (types : Table) (l : ℕ) (e : Event) (t u : Term) : Type 0 where
  pub context : Context
  pub redex : Term
  pub contractum : Term
  pub before : t ≡ plug context redex
  pub after : u ≡ plug context contractum
  pub evaluation : Evaluation l context
  pub contraction : Contraction types (level_at l context) e.rule e.replaced redex contractum
  pub place : e.place ≡ left_size context + 1
