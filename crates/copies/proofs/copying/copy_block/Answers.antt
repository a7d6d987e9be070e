-- `copy_block`
use borrow.Author.Rules.{rules}
use Rattle.copies.proofs.Parts.{parts}
use Rattle.copies.proofs.copying.copy_block.Goals as goal

pub overflow_add-result : goal.overflow_add-result
overflow_add-result c = search (parts, rules)
