-- What is filled is written.
use Rattle.infer_call.proofs.Written.{write_asked, length_short, type_written_lem}
use Rattle.infer_call.proofs.write_filled.Goals as goal

pub write_typed-written-requires : goal.write_typed-written-requires
write_typed-written-requires c = write_asked _ _ _ _ _ _ c.requires _ c.parts_of-parts.ensures

pub overflow_cast-result-2 : goal.overflow_cast-result-2
overflow_cast-result-2 c = length_short _ _ _ _ _ _ c.requires _ c.parts_of-parts.ensures _ _ c.write_typed-written.ensures

pub returns : goal.returns
returns c = type_written_lem _ _ _ _ _ _ c.requires _ c.parts_of-parts.ensures _ _ c.write_typed-written.ensures _
