-- The entry and the record of the rules that a struct of the code stands for: field by field.
use Rattle.rules.specs.Types.{Entry as MeantEntry}
use Rattle.rules.specs.Format.{Record as MeantRecord}
use Rattle.records.specs.declared.Entry.{Entry}
use Rattle.records.specs.declared.Record.{Record}

abbrev pub entry_meant : Entry → MeantEntry
entry_meant e = record { kind = e.kind; a = e.a; b = e.b }

abbrev pub record_meant : Record → MeantRecord
record_meant r = record {
  kind = r.kind;
  fields = record { type = r.ty; a = r.a; b = r.b; value = r.value };
  first = r.first;
  next = r.next;
}
