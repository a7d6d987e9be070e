-- These needs are laws, as the others.
use borrow.Author.Rules.{rules}
use Rattle.zipper.proofs.Closing.{closing}
use Rattle.zipper.proofs.focus.close.Goals as goal

pub link_at-link-requires : goal.link_at-link-requires
link_at-link-requires c = search (closing, rules)

pub returns : goal.returns
returns c = search (closing, rules)
