-- `put_spaced`: a space, then the digits. Assumes nothing.
use Rattle.std.proofs.Common.{rules}
use Rattle.listing_text.proofs.Numbers.{numbering}
use Rattle.listing_text.proofs.Text.put_spaced.Goals as goal

pub put-requires : goal.put-requires
put-requires c = search (numbering, rules)

pub put_decimal-requires : goal.put_decimal-requires
put_decimal-requires c = search (numbering, rules)

pub returns : goal.returns
returns c = search (numbering, rules)
