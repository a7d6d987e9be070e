-- What the types that are put come to, from the laws of putting.
use borrow.Author.Rules.{rules}
use Rattle.retyping.proofs.Putting.{putting, put_goes_on}
use Rattle.retyping.proofs.put_types.Goals as goal

pub loop-i-init : goal.loop-i-init
loop-i-init c = search (putting, rules)

pub get-r-requires : goal.get-r-requires
get-r-requires c = search (putting, rules)

pub put-requires : goal.put-requires
put-requires c = search (putting, rules)

pub loop-i-preserved : goal.loop-i-preserved
loop-i-preserved c = search (put_goes_on, c.put.ensures)

pub returns : goal.returns
returns c = search (putting, rules)
