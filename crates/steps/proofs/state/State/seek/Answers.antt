-- What the search of the focus tells holds of the state, by the law of the search.
use Rattle.std.proofs.Common.{rules}
use Rattle.steps.proofs.TermSearch.{term_seeking}
use Rattle.steps.proofs.state.State.seek.Goals as goal

pub returns-in-Next : goal.returns-in-Next
returns-in-Next c = search (term_seeking, rules)
