-- The root has a known kind.
use borrow.Author.Rules.{rules}
use Rattle.zipper.proofs.Opening.{opening}
use Rattle.zipper.proofs.focus.open_ahead.Goals as goal

pub root_kind-kind-requires : goal.root_kind-kind-requires
root_kind-kind-requires c = search (opening, rules)
