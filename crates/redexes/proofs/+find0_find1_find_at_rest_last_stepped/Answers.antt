-- Each need is one of the laws of the search at level 0, or of what `find1` makes of the first splice.
use borrow.Author.Rules.{rules}
use Rattle.redexes.proofs.Descending.{descending}
use Rattle.redexes.proofs.Scanning.{splicing}
use Rattle.redexes.proofs.+find0_find1_find_at_rest_last_stepped.Goals as goal

pub find0-root_kind-kind-requires : goal.find0-root_kind-kind-requires
find0-root_kind-kind-requires t c = search (descending, rules)

pub find0-loop-passed-init : goal.find0-loop-passed-init
find0-loop-passed-init t c = search (descending, rules)

pub find0-last_stepped-requires : goal.find0-last_stepped-requires
find0-last_stepped-requires t c = search (descending, rules)

pub find0-returns-in-Redex : goal.find0-returns-in-Redex
find0-returns-in-Redex t c = search (descending, rules)

pub find0-root_kind-kind-requires-in-loop-passed : goal.find0-root_kind-kind-requires-in-loop-passed
find0-root_kind-kind-requires-in-loop-passed t c = search (descending, rules)

pub find0-loop-passed-smaller : goal.find0-loop-passed-smaller
find0-loop-passed-smaller t c = search (descending, rules)

pub find0-loop-passed-preserved : goal.find0-loop-passed-preserved
find0-loop-passed-preserved t c = search (descending, rules)

pub find0-find_at_rest-requires : goal.find0-find_at_rest-requires
find0-find_at_rest-requires t c = search (descending, rules)

pub find1-overflow_add-p : goal.find1-overflow_add-p
find1-overflow_add-p t c = search (splicing, rules)

pub find1-find0-requires : goal.find1-find0-requires
find1-find0-requires t c = search (splicing, rules)

pub find1-returns-in-Redex : goal.find1-returns-in-Redex
find1-returns-in-Redex t c = search (splicing, rules)

pub find_at_rest-overflow_add-i : goal.find_at_rest-overflow_add-i
find_at_rest-overflow_add-i t c = search (descending, rules)

pub find_at_rest-find1-requires : goal.find_at_rest-find1-requires
find_at_rest-find1-requires t c = search (descending, rules)

pub find_at_rest-returns-then-first_level-eq1 : goal.find_at_rest-returns-then-first_level-eq1
find_at_rest-returns-then-first_level-eq1 t c = search (descending, rules)

pub find_at_rest-returns : goal.find_at_rest-returns
find_at_rest-returns t c = search (descending, rules)

pub last_stepped-overflow_add-i : goal.last_stepped-overflow_add-i
last_stepped-overflow_add-i t c = search (descending, rules)

pub last_stepped-find0-requires : goal.last_stepped-find0-requires
last_stepped-find0-requires t c = search (descending, rules)

pub last_stepped-returns-then-stepping-eq2 : goal.last_stepped-returns-then-stepping-eq2
last_stepped-returns-then-stepping-eq2 t c = search (descending, rules)

pub last_stepped-overflow_add-result : goal.last_stepped-overflow_add-result
last_stepped-overflow_add-result t c = search (descending, rules)

pub last_stepped-returns : goal.last_stepped-returns
last_stepped-returns t c = search (descending, rules)
