-- `State::aim` meets its contract.
use Rattle.std.proofs.Common.{rules}
use Rattle.steps.proofs.Stepping.{aiming}
use Rattle.steps.proofs.state.State.aim.Goals as goal

pub whole_rule-requires : goal.whole_rule-requires
whole_rule-requires c = search (aiming, rules)

pub plan_whole-requires : goal.plan_whole-requires
plan_whole-requires c = search (aiming, rules)

pub match_rule-rule-requires : goal.match_rule-rule-requires
match_rule-rule-requires c = search (aiming, rules)

pub plan_match-requires : goal.plan_match-requires
plan_match-requires c = search (aiming, rules)

pub returns-in-Redex : goal.returns-in-Redex
returns-in-Redex c = search (aiming, rules)

pub returns-in-Match : goal.returns-in-Match
returns-in-Match c = search (aiming, rules)
