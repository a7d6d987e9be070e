-- Each need of the loop is one of its laws.
use borrow.Author.Rules.{rules}
use Rattle.terms.proofs.Moving.{moving}
use Rattle.terms.proofs.copy_flat.Goals as goal

pub loop-i-init : goal.loop-i-init
loop-i-init c = search (moving, rules)

pub overflow_add-src : goal.overflow_add-src
overflow_add-src c = search (moving, rules)

pub copy-requires-clause-from : goal.copy-requires-clause-from
copy-requires-clause-from c = search (moving, rules)

pub overflow_add-dst : goal.overflow_add-dst
overflow_add-dst c = search (moving, rules)

pub copy-requires-clause-to : goal.copy-requires-clause-to
copy-requires-clause-to c = search (moving, rules)

pub loop-i-preserved : goal.loop-i-preserved
loop-i-preserved c = search (moving, rules)
