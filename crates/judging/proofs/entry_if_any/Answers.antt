-- It reads where there is an entry.
use Rattle.judging.proofs.Reading.{entry_there, zero_no_entry, no_entry_beyond}
use Rattle.judging.proofs.entry_if_any.Goals as goal
use Rattle.judging.proofs.entry_if_any.Goals.{then-n-eq0-via-then-n-eq0, then-n-eq0-via-else-n-eq0+then-table-n}

pub returns-then-n-eq0 : goal.returns-then-n-eq0
returns-then-n-eq0 c = elim c.then-n-eq0.branch [
  | then-n-eq0-via-then-n-eq0 w ↦ zero_no_entry _ _ _ c.none.ensures w.if-n-eq0.true
  | then-n-eq0-via-else-n-eq0+then-table-n w ↦ no_entry_beyond _ _ _ c.none.ensures w.if-table-n.true
]

pub entry_no-requires : goal.entry_no-requires
entry_no-requires c = entry_there _ _ c.if-n-eq0.false c.if-table-n.false
