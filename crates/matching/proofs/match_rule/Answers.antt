-- Each need is one law of Outcomes.
use borrow.Author.Rules.{rules}
use Rattle.matching.proofs.Outcomes.{ruling}
use Rattle.matching.proofs.match_rule.Goals as goal

pub matches-requires : goal.matches-requires
matches-requires c = search (ruling, rules)

pub returns-then-matches : goal.returns-then-matches
returns-then-matches c = search (ruling, rules)

pub returns-else-matches : goal.returns-else-matches
returns-else-matches c = search (ruling, rules)
