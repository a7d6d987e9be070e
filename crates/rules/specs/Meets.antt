-- What it is to meet document 01's layout and typing rules, with no order of checks and no walk. Check passes exactly what meets them
-- (theorem `exactly`): demand 2, first half.
use Rattle.std.specs.Prelude.{ℕ, ◌+◌, ◌*◌, ◌≤◌, ◌<◌, List, [], ◌≡◌, length}
use Rattle.rules.specs.Editions.{Edition}
use Rattle.rules.specs.Types.{Table}
use Rattle.rules.specs.Conditions.{Holds}
use Rattle.rules.specs.FieldUses.{TypeFields, given}
use Rattle.rules.specs.Typing.{Typed}
use Rattle.rules.specs.Format.{Record, type_count, record_count, table_of, records_of, record_no}
use Rattle.rules.specs.Links.{first_term}
use Rattle.rules.specs.Check.{counts_rule, entry_rule, fields_rule, omitted_rule, links_rule, children_rule}

-- A table and records: each entry and each record is good by itself, and where types are omitted none is written.
pub record MeetsForm (fields : TypeFields) (edition : Edition) (types : Table) (rs : List Record) : Type 0 where
  pub entries : (n : ℕ) → 1 ≤ n → n < 1 + length types → Holds (entry_rule types n)
  pub fielded : (n : ℕ) → 1 ≤ n → n < 1 + length rs → Holds (fields_rule fields edition types (record_no rs n))
  pub unwritten : (n : ℕ) → 1 ≤ n → n < 1 + length rs → Holds (omitted_rule fields rs n)
  pub linked : (n : ℕ) → 1 ≤ n → n < 1 + length rs → Holds (links_rule rs n)
  pub chained : (n : ℕ) → 1 ≤ n → n < 1 + length rs → Holds (children_rule rs n)

-- A program's layout: its counts are within their limits, and "nothing after" its records.
pub record MeetsLayout (fields : TypeFields) (edition : Edition) (program : List ℕ) : Type 0 where
  pub counts : Holds (counts_rule (type_count program) (record_count program))
  pub exact : length program ≡ 4 + 6 * type_count program + 16 * record_count program
  pub form : MeetsForm fields edition (table_of program) (records_of program)

-- A program: its layout is good, and the root's tree is rightly typed at level 0 under no binders.
pub record Meets (edition : Edition) (program : List ℕ) : Type 0 where
  pub layout : MeetsLayout given edition program
  pub typed : Typed (table_of program) [] 0 (first_term program)
