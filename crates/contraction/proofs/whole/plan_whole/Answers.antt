-- Each need is one law of Rewriting.
use borrow.Author.Rules.{rules}
use Rattle.contraction.proofs.Rewriting.{rewriting}
use Rattle.contraction.proofs.whole.plan_whole.Goals as goal

pub root_kind-requires : goal.root_kind-requires
root_kind-requires c = search (rewriting, rules)

pub apply-requires : goal.apply-requires
apply-requires c = search (rewriting, rules)

pub unroll-requires : goal.unroll-requires
unroll-requires c = search (rewriting, rules)

pub lift-requires : goal.lift-requires
lift-requires c = search (rewriting, rules)

pub overflow_add-result : goal.overflow_add-result
overflow_add-result c = search (rewriting, rules)

pub returns-in-Application : goal.returns-in-Application
returns-in-Application c = search (rewriting, rules)

pub returns-in-Fix : goal.returns-in-Fix
returns-in-Fix c = search (rewriting, rules)

pub returns-in-Lift : goal.returns-in-Lift
returns-in-Lift c = search (rewriting, rules)

pub returns-in_default : goal.returns-in_default
returns-in_default c = search (rewriting, rules)
