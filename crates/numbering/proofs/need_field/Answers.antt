-- `need_field`: a field that names no type, or one that has a number, needs nothing. Assumes nothing.
use Rattle.std.proofs.Common.{rules}
use Rattle.numbering.proofs.Fields.{of_field}
use Rattle.numbering.proofs.need_field.Goals as goal

pub returns-then-ne : goal.returns-then-ne
returns-then-ne c = search (of_field, rules)

pub bounds-new-x : goal.bounds-new-x
bounds-new-x c = search (of_field, rules)

pub returns-then-new-x-ne0 : goal.returns-then-new-x-ne0
returns-then-new-x-ne0 c = search (of_field, rules)

pub need-requires : goal.need-requires
need-requires c = search (of_field, rules)

pub returns : goal.returns
returns c = search (of_field, rules)
