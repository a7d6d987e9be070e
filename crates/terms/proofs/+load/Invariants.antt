-- The trees of the chain from `child` on are left to write. The measures: the generations that are left, and the records from `at` on.
use Rattle.std.proofs.Common.{◌-◌, length}
use Rattle.records.specs.View.{records_in}
use Rattle.terms.proofs.Loading.{Loading}
use Rattle.terms.proofs.+load.Given as goal

abbrev pub decreases-load : goal.decreases-load
decreases-load l = l.left

abbrev pub invariant-loop-child : goal.invariant-loop-child
invariant-loop-child l = Loading (records_in l.program) l.n l.left (records_in l.initial.w) l.initial.at (records_in l.w) l.at l.child

abbrev pub decreases-loop-child : goal.decreases-loop-child
decreases-loop-child l = length (records_in l.initial.w) - l.at
