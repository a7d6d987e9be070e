-- The invariant: the run of the first term stands where the state is, and as many variables gave way as are added up. The measure is the fuel that is left.
use Rattle.std.proofs.Common.{◌-◌}
use Rattle.records.specs.View.{entries_in, records_in}
use Rattle.running.proofs.Looping.{Going}
use Rattle.running.proofs.run_steps.Given as goal

abbrev pub invariant-loop-s : goal.invariant-loop-s
invariant-loop-s l = Going (entries_in l.fn.table) l.fn.fuel (records_in l.fn.work) (records_in l.work) l.fn.start l.s l.replaced

abbrev pub decreases-loop-s : goal.decreases-loop-s
decreases-loop-s l = l.fn.fuel - l.s.steps
