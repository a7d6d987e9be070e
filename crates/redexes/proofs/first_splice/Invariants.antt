-- At each turn what is found in the tree is what is found in the trees that are left. What falls is the number of their records.
use Prim.Native.Nat.{◌+◌, ◌-◌}
use lib.ListN.{get_or}
use Rattle.rules.specs.Format.{no_record}
use Rattle.records.specs.View.{records_in}
use Rattle.redexes.proofs.Scanning.{Scanning}
use Rattle.redexes.proofs.first_splice.Given as goal

abbrev pub invariant-loop-pending : goal.invariant-loop-pending
invariant-loop-pending l = Scanning (records_in l.w) l.i l.at l.pending

abbrev pub decreases-loop-pending : goal.decreases-loop-pending
decreases-loop-pending l = l.i + (get_or (records_in l.w) l.i no_record).first - l.at
