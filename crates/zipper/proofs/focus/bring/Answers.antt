-- The focus stands before the gap, by the law of bringing.
use borrow.Author.Rules.{rules}
use Rattle.zipper.proofs.Bringing.{bringing}
use Rattle.zipper.proofs.focus.bring.Goals as goal

pub returns : goal.returns
returns c = search (bringing, rules)
