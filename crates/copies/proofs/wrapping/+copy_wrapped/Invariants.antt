-- Before child j is copied, with the records as they were once the root was written. What falls is the number of records from src on.
use Rattle.std.proofs.Common.{◌-◌, length}
use Rattle.kinds.specs.Named.{kind_meant}
use Rattle.records.specs.View.{records_in}
use Rattle.copies.proofs.WrappedCopies.{Wraps}
use Rattle.copies.proofs.wrapping.+copy_wrapped.Given as goal

abbrev pub decreases-copy_wrapped : goal.decreases-copy_wrapped
decreases-copy_wrapped l = length (records_in l.w.now) - l.src

abbrev pub invariant-loop-j : goal.invariant-loop-j
invariant-loop-j l = Wraps (records_in l.initial.w) l.src l.dst l.n l.code l.d (kind_meant l.kind) l.children (records_in l.w) l.at l.to l.j
