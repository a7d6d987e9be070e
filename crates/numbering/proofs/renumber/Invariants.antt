-- After i turns, i records have their numbers.
use Rattle.records.specs.View.{entries_in, records_in}
use Rattle.numbering.proofs.Renumbering.{Renumbering}
use Rattle.numbering.proofs.renumber.Given as goal

abbrev pub invariant-loop-i : goal.invariant-loop-i
invariant-loop-i l = Renumbering (entries_in l.table) (records_in l.fn.records) l.fn.new l.i (records_in l.records) l.new l.count
