-- A refusal is the answer, and else what typing comes to.
use Rattle.infer_call.proofs.Answering.{call_refused, long_enough, part_long, can_type, infer_typed}
use Rattle.infer_call.proofs.infer.Goals as goal

pub slice_bounds-type_program-end : goal.slice_bounds-type_program-end
slice_bounds-type_program-end c = long_enough c.args.program.now c.args.output.now c.args.work.now c.in-Ok.ensures

pub slice_bounds-type_program-end-in-Ok : goal.slice_bounds-type_program-end-in-Ok
slice_bounds-type_program-end-in-Ok c = part_long c.args.program.now c.args.output.now c.args.work.now c.in-Ok.ensures

pub type_program-requires : goal.type_program-requires
type_program-requires c = can_type _ _ _ c.in-Ok.ensures

pub returns-in-Ok : goal.returns-in-Ok
returns-in-Ok c = infer_typed _ _ _ c.in-Ok.ensures _ _ _ c.type_program.ensures c.type_program.auto.work

pub returns-in-Err : goal.returns-in-Err
returns-in-Err c = call_refused _ _ _ _ _ c.in-Err.ensures c.refusing.ensures
