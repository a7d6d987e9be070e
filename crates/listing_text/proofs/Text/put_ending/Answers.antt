-- `put_ending`: each case writes the word of its endings. In the last, the ending is not 1 and not 2. Assumes nothing.
use Rattle.std.proofs.Common.{rules}
use Rattle.listing_text.proofs.Endings.{full_worded, wording}
use Rattle.listing_text.proofs.Text.put_ending.Goals as goal

pub put-requires : goal.put-requires
put-requires c = search (wording, rules)

pub put-requires-in-2 : goal.put-requires-in-2
put-requires-in-2 c = search (wording, rules)

pub put-requires-in_default : goal.put-requires-in_default
put-requires-in_default c = search (wording, full_worded, rules)

pub returns-in-1 : goal.returns-in-1
returns-in-1 c = search (wording, rules)

pub returns-in-2 : goal.returns-in-2
returns-in-2 c = search (wording, rules)

pub returns-in_default : goal.returns-in_default
returns-in_default c = search (wording, full_worded, rules)
