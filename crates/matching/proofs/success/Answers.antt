-- Each need is one law of Reading or Succeeding.
use borrow.Author.Rules.{rules}
use Rattle.matching.proofs.Reading.{reading}
use Rattle.matching.proofs.Succeeding.{succeeding}
use Rattle.matching.proofs.success.Goals as goal

pub overflow_add-p : goal.overflow_add-p
overflow_add-p c = search (reading, succeeding, rules)

pub skip-argument-requires : goal.skip-argument-requires
skip-argument-requires c = search (reading, succeeding, rules)

pub overflow_add-a : goal.overflow_add-a
overflow_add-a c = search (reading, succeeding, rules)

pub overflow_add-p-in-MatchLift : goal.overflow_add-p-in-MatchLift
overflow_add-p-in-MatchLift c = search (reading, succeeding, rules)

pub overflow_add-p-in-MatchFunction : goal.overflow_add-p-in-MatchFunction
overflow_add-p-in-MatchFunction c = search (reading, succeeding, rules)

pub opened_at-requires : goal.opened_at-requires
opened_at-requires c = search (reading, succeeding, rules)

pub overflow_add-p-in-MatchFix : goal.overflow_add-p-in-MatchFix
overflow_add-p-in-MatchFix c = search (reading, succeeding, rules)

pub returns-in-MatchApplication : goal.returns-in-MatchApplication
returns-in-MatchApplication c = search (reading, succeeding, rules)

pub returns-in-MatchLift : goal.returns-in-MatchLift
returns-in-MatchLift c = search (reading, succeeding, rules)

pub returns-in-MatchFunction : goal.returns-in-MatchFunction
returns-in-MatchFunction c = search (reading, succeeding, rules)

pub returns-in-MatchFix : goal.returns-in-MatchFix
returns-in-MatchFix c = search (reading, succeeding, rules)

pub returns-in_default : goal.returns-in_default
returns-in_default c = search (reading, succeeding, rules)
