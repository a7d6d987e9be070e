-- What falls is the size of the tree, which its root's record holds; `find0` counts one more, as it may end where it begins. The loop has come to a
-- tree from which the search goes on.
use Prim.Native.Nat.{◌+◌, ◌*◌}
use lib.ListN.{get_or}
use Rattle.rules.specs.Format.{no_record}
use Rattle.records.specs.View.{records_in}
use Rattle.redexes.proofs.Descending.{Descending}
use Rattle.redexes.proofs.+find0_find1_find_at_rest_last_stepped.Given as goal

abbrev pub decreases-find0 : goal.decreases-find0
decreases-find0 l = 2 * (get_or (records_in l.w.now) l.i no_record).first + 1

abbrev pub decreases-find1 : goal.decreases-find1
decreases-find1 l = 2 * (get_or (records_in l.w.now) l.i no_record).first

abbrev pub decreases-find_at_rest : goal.decreases-find_at_rest
decreases-find_at_rest l = 2 * (get_or (records_in l.w.now) l.i no_record).first

abbrev pub decreases-last_stepped : goal.decreases-last_stepped
decreases-last_stepped l = 2 * (get_or (records_in l.w.now) l.i no_record).first

abbrev pub invariant-find0-loop-passed : goal.invariant-find0-loop-passed
invariant-find0-loop-passed l = Descending (records_in l.w) l.i l.at l.passed l.kind

abbrev pub decreases-find0-loop-passed : goal.decreases-find0-loop-passed
decreases-find0-loop-passed l = (get_or (records_in l.w) l.at no_record).first
