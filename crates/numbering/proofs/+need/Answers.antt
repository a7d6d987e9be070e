-- `need`: what has a number needs nothing; what has none needs its parts, left first, and gets the next. Assumes nothing.
use Rattle.std.proofs.Common.{rules}
use Rattle.numbering.proofs.Fields.{needing}
use Rattle.numbering.proofs.+need.Goals as goal

pub returns-then-x-eq0 : goal.returns-then-x-eq0
returns-then-x-eq0 t c = search (needing, rules)

pub returns-then-new-at-ne0 : goal.returns-then-new-at-ne0
returns-then-new-at-ne0 t c = search (needing, rules)

pub overflow_add-next : goal.overflow_add-next
overflow_add-next t c = search (needing, rules)

pub returns : goal.returns
returns t c = search (needing, rules)
