-- Each goal is the law of its place.
use Rattle.std.proofs.Common.{rules, arith}
use Rattle.typing.proofs.WalkLaws.{one_left, room_first, stops_own, ends_leaf, goes_first, bound_first, stops_first, ends_first, room_second, goes_second, bound_second, stops_second, ends_second, goes_third, ends_third}
use Rattle.typing.proofs.+walk.Goals as goal
use Rattle.typing.proofs.+walk.Goals.{then-second-ge-REFUSED-via-then-second-ge-REFUSED, then-second-ge-REFUSED-via-else-second-ge-REFUSED+then-e-eq0}

pub returns-in-Err : goal.returns-in-Err
returns-in-Err t c = search (stops_own, rules)

pub overflow_sub-rest : goal.overflow_sub-rest
overflow_sub-rest t c = omega (arith, one_left _ _ _ _ c.requires)

pub returns-then-r-eq0 : goal.returns-then-r-eq0
returns-then-r-eq0 t c = search (ends_leaf, rules)

pub push_first-requires : goal.push_first-requires
push_first-requires t c = room_first _ _ _ _ c.requires

pub walk-first-requires : goal.walk-first-requires
walk-first-requires t c = (omega (arith, one_left _ _ _ _ c.requires), search (goes_first, rules))

pub truncate-requires : goal.truncate-requires
truncate-requires t c = search (bound_first, rules)

pub returns-then-first-ge-REFUSED : goal.returns-then-first-ge-REFUSED
returns-then-first-ge-REFUSED t c = search (stops_first, rules)

pub returns-then-next-eq0 : goal.returns-then-next-eq0
returns-then-next-eq0 t c = search (ends_first, rules)

pub push_second-requires : goal.push_second-requires
push_second-requires t c = search (room_second, rules)

pub walk-second-requires : goal.walk-second-requires
walk-second-requires t c = (omega (arith, one_left _ _ _ _ c.requires), search (goes_second, rules))

pub truncate-requires-2 : goal.truncate-requires-2
truncate-requires-2 t c = search (bound_second, rules)

pub returns-then-second-ge-REFUSED : goal.returns-then-second-ge-REFUSED
returns-then-second-ge-REFUSED t c = elim c.then-second-ge-REFUSED.branch [
  | then-second-ge-REFUSED-via-then-second-ge-REFUSED w ↦ search (stops_second, rules)
  | then-second-ge-REFUSED-via-else-second-ge-REFUSED+then-e-eq0 w ↦ search (ends_second, rules)
]

pub walk-requires : goal.walk-requires
walk-requires t c = (omega (arith, one_left _ _ _ _ c.requires), search (goes_third, rules))

pub returns : goal.returns
returns t c = search (ends_third, rules)
