-- What the closure ensures of each record's test is handed to `lowest_found`.
use Rattle.std.proofs.Common.{sym}
use Rattle.rules.specs.Format.{record_no}
use Rattle.kinds.specs.Meant.{edition_meant, type_fields_meant}
use Rattle.records.specs.View.{entries_in, records_in}
use Rattle.refusals.proofs.Reporting.{lowest_found}
use Rattle.fields.specs.Fields.{FieldsTested}
use Rattle.fields.proofs.fields_refusal.Goals as goal

pub returns : goal.returns
returns c =
    let a = c.args in
    rw (← c.record_count-count.ensures) (lowest_found _ (λ n b. FieldsTested (type_fields_meant a.given) (edition_meant a.edition) c.entry_count-types.result (record_no (records_in a.records.now) n) b) _ _ _
    (λ n b p q h. h.is (entries_in a.table.now) (sym c.entry_count-types.ensures)) c.lowest_refusal.ensures)
