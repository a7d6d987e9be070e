-- These needs are laws, as the others.
use borrow.Author.Rules.{rules}
use Rattle.seeking.proofs.Searching.{searching}
use Rattle.seeking.proofs.search.Goals as goal

pub find_at-found-requires : goal.find_at-found-requires
find_at-found-requires c = search (searching, rules)

pub returns-in-Done : goal.returns-in-Done
returns-in-Done c = search (searching, rules)
