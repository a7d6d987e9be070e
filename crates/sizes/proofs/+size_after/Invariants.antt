-- Before child j is counted. What falls is the number of records from src on.
use Rattle.std.proofs.Common.{◌-◌, length}
use Rattle.kinds.specs.Named.{kind_meant}
use Rattle.records.specs.View.{records_in}
use Rattle.sizes.proofs.SizesAfter.{Walking}
use Rattle.sizes.proofs.+size_after.Given as goal

abbrev pub decreases-size_after : goal.decreases-size_after
decreases-size_after l = length (records_in l.w.now) - l.src

abbrev pub invariant-loop-j : goal.invariant-loop-j
invariant-loop-j l = Walking l.m l.first l.second (records_in l.w) l.src l.d (kind_meant l.kind) l.children l.n l.at l.j
