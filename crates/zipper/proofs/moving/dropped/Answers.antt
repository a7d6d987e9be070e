-- These needs are laws, as the others.
use borrow.Author.Rules.{rules}
use Rattle.zipper.proofs.Filling.{dropping}
use Rattle.zipper.proofs.moving.dropped.Goals as goal

pub link_at-link-requires : goal.link_at-link-requires
link_at-link-requires c = search (dropping, rules)

pub returns : goal.returns
returns c = search (dropping, rules)
