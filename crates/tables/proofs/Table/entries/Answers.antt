-- The first bytes of the buffer are those of the table's entries.
use Rattle.tables.proofs.Lookup.{bytes_long, are_entries}
use Rattle.tables.proofs.Table.entries.Goals as goal

pub slice_bounds-result-end : goal.slice_bounds-result-end
slice_bounds-result-end c = bytes_long _ c.requires

pub returns : goal.returns
returns c = are_entries _ c.requires
