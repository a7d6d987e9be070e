-- Before child j is joined.
use Rattle.kinds.specs.Named.{kind_meant}
use Rattle.records.specs.View.{records_in}
use Rattle.terms.proofs.Joined.{Joining}
use Rattle.terms.proofs.measuring.measured.Given as goal

abbrev pub invariant-loop-j : goal.invariant-loop-j
invariant-loop-j l = Joining (records_in l.w) l.i (kind_meant l.kind) l.m l.j
