-- Types written out in full: what a number of a table means, whatever the table. Document 02, N4: "Where the checklist or N1 compares types, they are
-- compared written out in full." `Full` and `full` are crate inference's.
use Rattle.std.specs.Prelude.{ℕ, ◌+◌, ◌≤◌, ◌<◌, ◌≡◌, length}
use Rattle.rules.specs.Types.{Table}
use Rattle.rules.specs.Conditions.{Met, Holds}
use Rattle.rules.specs.FieldUses.{is_entry}
use Rattle.rules.specs.Check.{entry_rule}
use Rattle.inference.specs.FullTypes.{Full, fn, code, full}

-- n is the number of an entry.
abbrev pub NamesType : Table → ℕ → Type 0
NamesType types n = Met (is_entry types n)

-- Every entry of the table keeps rule 6.
abbrev pub GoodEntries : Table → Type 0
GoodEntries types = (n : ℕ) → 1 ≤ n → n < 1 + length types → Holds (entry_rule types n)

-- Type n of a table whose entries are good: "Parts are numbers of earlier entries", so that n generations are all. What stands for no entry is of
-- no account.
unfoldable pub in_full : Table → ℕ → Full
in_full types n = full n types n

-- The numbers of one type in two tables: both are entries, and they are equal in full.
pub record SameType (types types' : Table) (x y : ℕ) : Type 0 where
  pub here : NamesType types x
  pub there : NamesType types' y
  pub same : in_full types x ≡ in_full types' y

-- x is f or stands in it.
pub data PartOf (x : Full) : Full → Type 0 where
  itself : PartOf x x
  in_argument : {f g : Full} → PartOf x f → PartOf x (fn f g)
  in_result : {f g : Full} → PartOf x g → PartOf x (fn f g)
  in_code : {f : Full} → PartOf x f → PartOf x (code f)
