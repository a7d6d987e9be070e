-- The invariant of `count_before`: none of the first i entries is the one looked for.
use Rattle.records.specs.Meant.{entry_meant}
use Rattle.tables.proofs.Lookup.{Passed}
use Rattle.tables.proofs.Table.count_before.Given as goal

abbrev pub invariant-loop-i : goal.invariant-loop-i
invariant-loop-i l = Passed l.self (entry_meant l.e) l.i
