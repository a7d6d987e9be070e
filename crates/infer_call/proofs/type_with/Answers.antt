-- A fault is the answer, and where there is none the program is written.
use Rattle.infer_call.proofs.Parts.{fill_asked}
use Rattle.infer_call.proofs.Filled.{type_faulty, has_bytes, can_write}
use Rattle.infer_call.proofs.type_with.Goals as goal

pub fill_all-requires : goal.fill_all-requires
fill_all-requires c =
    fill_asked _ _ _ _ _ c.requires _ c.parts_of-parts.ensures _ c.copy_bytes.ensures _ c.entry_count.ensures _ c.of-table.ensures _ c.record_count-last.ensures

pub entries-requires : goal.entries-requires
entries-requires c =
    has_bytes _ _ _ _ _ c.requires _ c.parts_of-parts.ensures _ c.copy_bytes.ensures _ c.entry_count.ensures _ c.of-table.ensures _ _ _ c.in-Ok.ensures

pub write_filled-requires : goal.write_filled-requires
write_filled-requires c =
    can_write _ _ _ _ _ c.requires _ c.parts_of-parts.ensures _ c.copy_bytes.ensures _ c.entry_count.ensures _ c.of-table.ensures _ _ _ c.in-Ok.ensures
    _ c.entries.ensures _ c.record_count-last.ensures c.fill_all.auto.given

pub returns-in-Err : goal.returns-in-Err
returns-in-Err c =
    type_faulty _ _ _ _ _ c.requires _ c.parts_of-parts.ensures _ c.copy_bytes.ensures _ c.entry_count.ensures _ c.of-table.ensures _ _ _ c.in-Err.ensures _
    c.refusing.ensures
