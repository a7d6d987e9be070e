-- At each turn the trees that are left end where all do.
use Rattle.records.specs.View.{records_in}
use Rattle.zipper.proofs.Rows.{Skipping}
use Rattle.zipper.proofs.focus.skip_all.Given as goal

abbrev pub invariant-loop : goal.invariant-loop
invariant-loop l = Skipping (records_in l.w) l.i l.n l.at l.counter
