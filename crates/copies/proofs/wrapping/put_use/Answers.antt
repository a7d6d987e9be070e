-- `put_use`
use borrow.Author.Rules.{rules}
use Rattle.copies.proofs.WrappedCopies.{wrapping_laws}
use Rattle.copies.proofs.wrapping.put_use.Goals as goal

pub overflow_add-dst : goal.overflow_add-dst
overflow_add-dst c = search (wrapping_laws, rules)

pub overflow_add-result : goal.overflow_add-result
overflow_add-result c = search (wrapping_laws, rules)

pub returns : goal.returns
returns c = search (wrapping_laws, rules)
