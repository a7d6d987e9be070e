-- `renumber`: a record gets its numbers in each turn. Assumes nothing.
use Rattle.std.proofs.Common.{rules}
use Rattle.numbering.proofs.Renumbering.{turning, goes_on}
use Rattle.numbering.proofs.renumber.Goals as goal

pub loop-i-init : goal.loop-i-init
loop-i-init c = search (turning, rules)

pub get-r-requires : goal.get-r-requires
get-r-requires c = search (turning, rules)

pub need_record-count-requires : goal.need_record-count-requires
need_record-count-requires c = search (turning, rules)

pub with_numbers-requires : goal.with_numbers-requires
with_numbers-requires c = search (turning, rules)

pub put-requires : goal.put-requires
put-requires c = search (turning, rules)

pub loop-i-preserved : goal.loop-i-preserved
loop-i-preserved c = search (goes_on, c.put.ensures, c.need_record-count.ensures, rules)
