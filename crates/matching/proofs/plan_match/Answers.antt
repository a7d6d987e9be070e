-- Each need is one law of Outcomes.
use Rattle.matching.proofs.Outcomes.{can_succeed, match_succeeds, match_fails}
use Rattle.matching.proofs.plan_match.Goals as goal

pub success-requires : goal.success-requires
success-requires c = can_succeed _ _ _ _ _ _ c.in-Success.is c.requires

pub returns-in-Success : goal.returns-in-Success
returns-in-Success c = match_succeeds _ _ _ _ _ _ c.in-Success.is _ c.success.ensures

pub returns-in_default : goal.returns-in_default
returns-in_default c = match_fails _ _ _ _ _ _ c.in_default.not-Success c.skip.ensures
