-- `put_numbers`: a number is written in each turn, and the newline behind them. Assumes nothing.
use Rattle.std.proofs.Common.{rules}
use Rattle.listing_text.proofs.Numbers.{numbering}
use Rattle.listing_text.proofs.Text.put_numbers.Goals as goal

pub loop-n-init : goal.loop-n-init
loop-n-init c = search (numbering, rules)

pub put_spaced-requires : goal.put_spaced-requires
put_spaced-requires c = search (numbering, rules)

pub loop-n-preserved : goal.loop-n-preserved
loop-n-preserved c = search (numbering, rules)

pub put-requires : goal.put-requires
put-requires c = search (numbering, rules)

pub returns : goal.returns
returns c = search (numbering, rules)
