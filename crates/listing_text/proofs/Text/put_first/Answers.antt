-- `put_first`: the ending's word, then the numbers, make the first line. Assumes nothing.
use Rattle.std.proofs.Common.{rules}
use Rattle.listing_text.proofs.Lines.{lining}
use Rattle.listing_text.proofs.Text.put_first.Goals as goal

pub put_ending-requires : goal.put_ending-requires
put_ending-requires c = search (lining, rules)

pub put_numbers-requires : goal.put_numbers-requires
put_numbers-requires c = search (lining, rules)

pub returns : goal.returns
returns c = search (lining, rules)
