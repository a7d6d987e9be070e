-- What values of the code stand for in the rules: an edition, and whether types are given.
use Rattle.std.specs.Prelude.{Bool, true, false}
use Rattle.rules.specs.Editions.{Edition as MeantEdition}
use Rattle.rules.specs.FieldUses.{TypeFields, given, omitted}
use Rattle.kinds.specs.declared.editions.Edition.{Edition}

abbrev pub edition_meant : Edition → MeantEdition
edition_meant edition = record { last_kind = edition.last_kind }

unfoldable pub type_fields_meant : Bool → TypeFields
type_fields_meant true = given
type_fields_meant false = omitted
