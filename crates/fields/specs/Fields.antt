-- What the tests of a record's fields say: rule 7 asks of the type table only how long it is, so that the tests are given its length, and
-- hold of every table that is so long.
use Rattle.std.specs.Prelude.{ℕ, Bool, ◌≡◌, length}
use Rattle.rules.specs.Editions.{Edition}
use Rattle.rules.specs.Types.{Table}
use Rattle.rules.specs.Conditions.{met, holds}
use Rattle.rules.specs.FieldUses.{Use, TypeFields, field}
use Rattle.rules.specs.Format.{Record}
use Rattle.rules.specs.Check.{fields_rule}

-- r is whether a field x is good for the use u.
pub record FieldTested (u : Use) (types x : ℕ) (r : Bool) : Type 0 where
  pub is : (table : Table) → length table ≡ types → r ≡ met (field table u x)

-- r is whether the record keeps rule 7.
pub record FieldsTested (fields : TypeFields) (edition : Edition) (types : ℕ) (x : Record) (r : Bool) : Type 0 where
  pub is : (table : Table) → length table ≡ types → r ≡ holds (fields_rule fields edition table x)
