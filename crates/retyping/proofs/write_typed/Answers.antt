-- `write_typed`: what is loaded gets its types, and is then the tree that is written. Assumes nothing.
use Rattle.std.proofs.Common.{rules}
use Rattle.retyping.proofs.TypedPrograms.{loading, typed_fits, typed_written}
use Rattle.retyping.proofs.write_typed.Goals as goal

pub load-end-requires : goal.load-end-requires
load-end-requires c = search (loading, rules)

pub put_types-requires : goal.put_types-requires
put_types-requires c = search (loading, rules)

pub slice_bounds-write_program-end : goal.slice_bounds-write_program-end
slice_bounds-write_program-end c = search (loading, rules)

pub slice_bounds-write_program-end-2 : goal.slice_bounds-write_program-end-2
slice_bounds-write_program-end-2 c = search (loading, rules)

pub write_program-requires : goal.write_program-requires
write_program-requires c = search (typed_fits, rules)

pub returns : goal.returns
returns c = search (typed_written, rules)
