-- `raise_root`
use borrow.Author.Rules.{rules}
use Rattle.copies.proofs.RaisedRoots.{raise_known, raising_root}
use Rattle.copies.proofs.raising.raise_root.Goals as goal

pub get-r-requires : goal.get-r-requires
get-r-requires c = search (raising_root, rules)

pub raised_field-a-requires : goal.raised_field-a-requires
raised_field-a-requires c = search (raising_root, rules)

pub overflow_add-next : goal.overflow_add-next
overflow_add-next c = search (raising_root, rules)

pub put-requires : goal.put-requires
put-requires c = search (raising_root, rules)

pub returns : goal.returns
returns c = search (raising_root, rules)

pub known-requires : goal.known-requires
known-requires c = raise_known _ _ _ _ _ _ c.get-r.ensures c.requires
