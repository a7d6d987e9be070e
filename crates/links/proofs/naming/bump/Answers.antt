use Rattle.std.proofs.Common.{rules}
use Rattle.links.proofs.Bumping.{bumping}
use Rattle.links.proofs.naming.bump.Goals as goal

pub returns-then-m-ne0 : goal.returns-then-m-ne0
returns-then-m-ne0 c = search (bumping, rules)

pub returns-else-m-ne0 : goal.returns-else-m-ne0
returns-else-m-ne0 c = search (bumping, rules)
