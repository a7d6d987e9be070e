-- The first line, then the records' lines, make the text. Assumes nothing.
use Rattle.std.proofs.Common.{arith, rules}
use Rattle.listing_text.proofs.Printing.{made, printing}
use Rattle.listing_text.proofs.accepted_text.Goals as goal

pub put_first-requires : goal.put_first-requires
put_first-requires c = search (printing, rules)

pub put_records-requires : goal.put_records-requires
put_records-requires c = search (printing, rules)

pub returns : goal.returns
returns c = made _ _ _ c.put_records.new.self (grind arith) (search (printing, rules))

pub overflow_cast-count : goal.overflow_cast-count
overflow_cast-count c = search (printing, rules)
