-- The invariant: the entries below m are not like entry n.
use Rattle.records.specs.View.{entries_in}
use Rattle.fields.proofs.Entering.{Apart}
use Rattle.fields.proofs.alone.Given as goal

abbrev pub invariant-loop-m : goal.invariant-loop-m
invariant-loop-m l = Apart (entries_in l.table) l.n l.m
