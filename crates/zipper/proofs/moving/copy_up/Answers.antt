-- Each need is one of the laws of the loop.
use borrow.Author.Rules.{rules}
use Rattle.zipper.proofs.Filling.{moving_up}
use Rattle.zipper.proofs.moving.copy_up.Goals as goal

pub returns-then-src-dst : goal.returns-then-src-dst
returns-then-src-dst c = search (moving_up, rules)

pub loop-i-init : goal.loop-i-init
loop-i-init c = search (moving_up, rules)

pub overflow_add-src : goal.overflow_add-src
overflow_add-src c = search (moving_up, rules)

pub copy-requires-clause-from : goal.copy-requires-clause-from
copy-requires-clause-from c = search (moving_up, rules)

pub overflow_add-dst : goal.overflow_add-dst
overflow_add-dst c = search (moving_up, rules)

pub copy-requires-clause-to : goal.copy-requires-clause-to
copy-requires-clause-to c = search (moving_up, rules)

pub loop-i-preserved : goal.loop-i-preserved
loop-i-preserved c = search (moving_up, rules)

pub returns : goal.returns
returns c = search (moving_up, rules)
