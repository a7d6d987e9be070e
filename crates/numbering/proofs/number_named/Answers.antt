-- A field that names a type names one with a place in the array. Assumes nothing.
use Rattle.std.proofs.Common.{rules}
use Rattle.numbering.proofs.Records.{named_place}
use Rattle.numbering.proofs.number_named.Goals as goal

pub bounds-new-x : goal.bounds-new-x
bounds-new-x c = search (named_place, rules)
