-- `put_records`: a line is written in each turn. Assumes nothing.
use Rattle.std.proofs.Common.{rules}
use Rattle.listing_text.proofs.Listing.{listing}
use Rattle.listing_text.proofs.Text.put_records.Goals as goal

pub loop-i-init : goal.loop-i-init
loop-i-init c = search (listing, rules)

pub put_record-requires : goal.put_record-requires
put_record-requires c = search (listing, rules)

pub loop-i-preserved : goal.loop-i-preserved
loop-i-preserved c = search (listing, rules)
