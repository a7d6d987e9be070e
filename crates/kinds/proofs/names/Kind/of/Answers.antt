-- `Kind::of` answers by the table of the kinds' numbers.
use Rattle.std.proofs.Common.{arith}
use Rattle.kinds.proofs.Named.{otherwise}
use Rattle.kinds.proofs.names.Kind.of.Goals as goal

pub returns-in_default : goal.returns-in_default
returns-in_default c = otherwise _ (λ p q. omega arith)

pub returns-in_default-2 : goal.returns-in_default-2
returns-in_default-2 c = otherwise _ (λ p q. omega arith)
