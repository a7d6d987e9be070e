-- These needs are laws of the redex that is reached.
use borrow.Author.Rules.{rules}
use Rattle.navigation.proofs.Reaching.{reaching}
use Rattle.navigation.proofs.ascending.reach.Goals as goal

pub is_match_at-requires : goal.is_match_at-requires
is_match_at-requires c = search (reaching, rules)

pub open_ahead-code-requires : goal.open_ahead-code-requires
open_ahead-code-requires c = search (reaching, rules)

pub bring-requires : goal.bring-requires
bring-requires c = search (reaching, rules)

pub returns-then-is_match_at : goal.returns-then-is_match_at
returns-then-is_match_at c = search (reaching, rules)

pub returns : goal.returns
returns c = search (reaching, rules)
