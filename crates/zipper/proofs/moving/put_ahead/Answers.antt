-- The focus stands in the hole, by the law of filling.
use borrow.Author.Rules.{rules}
use Rattle.zipper.proofs.Filling.{filling}
use Rattle.zipper.proofs.moving.put_ahead.Goals as goal

pub returns : goal.returns
returns c = search (filling, rules)
