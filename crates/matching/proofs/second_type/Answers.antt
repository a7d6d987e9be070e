-- Each need is one law of Telling.
use borrow.Author.Rules.{rules}
use Rattle.matching.proofs.Telling.{telling}
use Rattle.matching.proofs.second_type.Goals as goal

pub overflow_add-i : goal.overflow_add-i
overflow_add-i c = search (telling, rules)

pub skip-at-requires : goal.skip-at-requires
skip-at-requires c = search (telling, rules)

pub get-r-requires : goal.get-r-requires
get-r-requires c = search (telling, rules)

pub returns : goal.returns
returns c = search (telling, rules)
