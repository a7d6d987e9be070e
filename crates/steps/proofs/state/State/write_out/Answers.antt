-- `State::write_out`: the frames are closed, and the records of the whole term are written. Assumes nothing.
use Rattle.std.proofs.Common.{rules}
use Rattle.steps.proofs.Output.{putting_out}
use Rattle.steps.proofs.state.State.write_out.Goals as goal

pub slice_bounds-write_program-end : goal.slice_bounds-write_program-end
slice_bounds-write_program-end c = search (putting_out, rules)

pub slice_bounds-write_program-end-2 : goal.slice_bounds-write_program-end-2
slice_bounds-write_program-end-2 c = search (putting_out, rules)

pub write_program-requires : goal.write_program-requires
write_program-requires c = search (putting_out, rules)

pub returns : goal.returns
returns c = search (putting_out, rules)
