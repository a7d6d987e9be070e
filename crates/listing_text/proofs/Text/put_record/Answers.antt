-- `put_record`: the number, then the fields, make the record's line. Assumes nothing.
use Rattle.std.proofs.Common.{rules}
use Rattle.listing_text.proofs.Lines.{lining}
use Rattle.listing_text.proofs.Text.put_record.Goals as goal

pub put_decimal-requires : goal.put_decimal-requires
put_decimal-requires c = search (lining, rules)

pub put_numbers-requires : goal.put_numbers-requires
put_numbers-requires c = search (lining, rules)

pub returns : goal.returns
returns c = search (lining, rules)
