-- A number that is known, or that of the entry that the table is made to have.
use Rattle.assigning.proofs.Faults.{can_have, has_known, has_made}
use Rattle.assigning.proofs.hold.Goals as goal

pub have-requires : goal.have-requires
have-requires c = can_have _ _ _ c.requires c.in-Made.is

pub returns-in-Known : goal.returns-in-Known
returns-in-Known c = has_known _ _ _ c.in-Known.is

pub returns-in-Made : goal.returns-in-Made
returns-in-Made c = has_made _ _ _ _ _ c.in-Made.is c.have.ensures
