-- A kind that is none of the edition's, and else the fields by their uses.
use Rattle.std.proofs.Common.{arith}
use Rattle.fields.proofs.Fielding.{tested_fields, fielding}
use Rattle.fields.proofs.fields_ok.Goals as goal
use Rattle.fields.proofs.fields_ok.Goals.{then-not-given, else-not-given, then-is_entry, else-is_entry, then-field_ok, else-field_ok}

pub returns-then-field_ok-2 : goal.returns-then-field_ok-2
returns-then-field_ok-2 c =
    tested_fields _ _ _ _ _ c.if-not-given.value c.if-is_entry.value c.if-field_ok.value _ c.of-kind.ensures (omega arith) (omega arith)
    (elim c.if-not-given.branch [ then-not-given w ↦ search fielding | else-not-given w ↦ search fielding ])
    (elim c.if-is_entry.branch [ then-is_entry w ↦ search fielding | else-is_entry w ↦ search fielding ])
    (elim c.if-field_ok.branch [ then-field_ok w ↦ search fielding | else-field_ok w ↦ search fielding ])
    (search fielding)

pub returns-else-field_ok-2 : goal.returns-else-field_ok-2
returns-else-field_ok-2 c =
    tested_fields _ _ _ _ _ c.if-not-given.value c.if-is_entry.value c.if-field_ok.value _ c.of-kind.ensures (omega arith) (omega arith)
    (elim c.if-not-given.branch [ then-not-given w ↦ search fielding | else-not-given w ↦ search fielding ])
    (elim c.if-is_entry.branch [ then-is_entry w ↦ search fielding | else-is_entry w ↦ search fielding ])
    (elim c.if-field_ok.branch [ then-field_ok w ↦ search fielding | else-field_ok w ↦ search fielding ])
    (search fielding)
