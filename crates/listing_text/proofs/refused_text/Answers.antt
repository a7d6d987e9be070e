-- A line that starts at place 0 is what is printed. Assumes nothing.
use Rattle.std.proofs.Common.{arith, rules}
use Rattle.listing_text.proofs.Printing.{made, printing}
use Rattle.listing_text.proofs.refused_text.Goals as goal

pub put-requires : goal.put-requires
put-requires c = search (printing, rules)

pub put_numbers-requires : goal.put_numbers-requires
put_numbers-requires c = search (printing, rules)

pub returns : goal.returns
returns c = made _ _ _ c.put_numbers.new.self (grind arith) (search (printing, rules))
