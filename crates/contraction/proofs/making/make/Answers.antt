-- Each need is one law of Contracta.
use borrow.Author.Rules.{rules}
use Rattle.contraction.proofs.Contracta.{making}
use Rattle.contraction.proofs.making.make.Goals as goal

pub copy_replaced-c-requires : goal.copy_replaced-c-requires
copy_replaced-c-requires c = search (making, rules)

pub overflow_sub-result-in-Body : goal.overflow_sub-result-in-Body
overflow_sub-result-in-Body c = search (making, rules)

pub copy_argument-end-requires : goal.copy_argument-end-requires
copy_argument-end-requires c = search (making, rules)

pub overflow_sub-result-in-Made : goal.overflow_sub-result-in-Made
overflow_sub-result-in-Made c = search (making, rules)

pub returns-in-Body : goal.returns-in-Body
returns-in-Body c = search (making, rules)

pub returns-in-Made : goal.returns-in-Made
returns-in-Made c = search (making, rules)
