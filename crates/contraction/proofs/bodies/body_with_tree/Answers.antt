-- Each need is one law of PlannedBodies.
use borrow.Author.Rules.{rules}
use Rattle.terms.proofs.Readings.{tree_kind}
use Rattle.contraction.proofs.PlannedBodies.{bodies}
use Rattle.contraction.proofs.bodies.body_with_tree.Goals as goal

pub root_is-requires : goal.root_is-requires
root_is-requires c = search (tree_kind, rules)

pub returns-then-root_is : goal.returns-then-root_is
returns-then-root_is c = search (bodies, rules)

pub returns-else-bound_at-eq1 : goal.returns-else-bound_at-eq1
returns-else-bound_at-eq1 c = search (bodies, rules)
