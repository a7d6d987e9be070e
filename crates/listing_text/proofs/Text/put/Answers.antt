-- `put`: the bytes stand in place of those that were there. Assumes nothing.
use Rattle.std.proofs.Common.{rules}
use Rattle.listing_text.proofs.Parts.{bytes_wrote}
use Rattle.listing_text.proofs.Text.put.Goals as goal

pub returns : goal.returns
returns c = search (bytes_wrote, rules)
