-- Each need is one law of PlannedBodies.
use borrow.Author.Rules.{rules}
use Rattle.contraction.proofs.PlannedBodies.{bodies}
use Rattle.contraction.proofs.bodies.body_with.Goals as goal

pub returns-then-bound_at-eq0 : goal.returns-then-bound_at-eq0
returns-then-bound_at-eq0 c = search (bodies, rules)

pub returns-else-bound_at-eq0 : goal.returns-else-bound_at-eq0
returns-else-bound_at-eq0 c = search (bodies, rules)
