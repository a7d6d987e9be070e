-- These needs are laws of the frame that is told.
use borrow.Author.Rules.{rules}
use Rattle.navigation.proofs.Turns.{telling}
use Rattle.navigation.proofs.ascending.steps_next.Goals as goal

pub root_kind-kind-requires : goal.root_kind-kind-requires
root_kind-kind-requires c = search (telling, rules)

pub overflow_sub-next : goal.overflow_sub-next
overflow_sub-next c = search (telling, rules)

pub returns : goal.returns
returns c = search (telling, rules)
