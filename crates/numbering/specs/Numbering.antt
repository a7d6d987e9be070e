-- What code keeps while it gives the types of a table their numbers: an array, by the order of use that `order` defines.
use Rattle.std.specs.Prelude.{ℕ, ◌≤◌, ◌<◌, List, map, ◌≡◌, length, get_or}
use Rattle.rules.specs.Lists.{All}
use Rattle.rules.specs.Types.{Table}
use Rattle.rules.specs.Format.{Record}
use Rattle.rules.specs.FieldUses.{Use, unused, an_index, a_type, a_number}
use Rattle.order.specs.FullTypes.{NamesType, GoodEntries, in_full}
use Rattle.order.specs.Order.{types_of_record, new_number, needed, need_all}
use Rattle.order.specs.OrderInFull.{Listed}

-- Types that have numbers: entries, none twice, each after its parts.
pub record Seen (types : Table) (seen : List ℕ) : Type 0 where
  pub entries : All (NamesType types) seen
  pub listed : Listed (map (in_full types) seen)

-- An array that holds the number of each type, and how many have one.
pub record Numbering (types : Table) (new : List ℕ) (count : ℕ) (seen : List ℕ) : Type 0 where
  pub room : length types < length new
  pub each : (x : ℕ) → x ≤ length types → get_or new x 0 ≡ new_number seen x
  pub counted : count ≡ length seen
  pub seen_is : Seen types seen

-- The table is good, and some of its types have numbers.
pub record SomeNumbered (types : Table) (new : List ℕ) (count : ℕ) : Type 0 where
  pub good : GoodEntries types
  pub few : length types < 257
  pub seen : List ℕ
  pub numbering : Numbering types new count seen

-- Type x, or 0, can be needed; and what the need makes of the array and the count.
pub record CanNeed (types : Table) (x : ℕ) (new : List ℕ) (count : ℕ) : Type 0 where
  pub low : x ≤ length types
  pub numbered : SomeNumbered types new count

pub record Needs (types : Table) (x : ℕ) (new : List ℕ) (count : ℕ) (new' : List ℕ) (count' : ℕ) : Type 0 where
  pub is : (seen : List ℕ) → Numbering types new count seen → Numbering types new' count' (needed types x seen)

-- The type that a field x names that is used so: 0 where it names none.
unfoldable pub type_named : Use → ℕ → ℕ
type_named unused x = 0
type_named an_index x = 0
type_named a_type x = x
type_named a_number x = 0

-- The same for the types that a record names.
pub record CanNeedRecord (types : Table) (r : Record) (new : List ℕ) (count : ℕ) : Type 0 where
  pub entries : All (NamesType types) (types_of_record r)
  pub numbered : SomeNumbered types new count

pub record RecordNeeds (types : Table) (r : Record) (new : List ℕ) (count : ℕ) (new' : List ℕ) (count' : ℕ) : Type 0 where
  pub is : (seen : List ℕ) → Numbering types new count seen → Numbering types new' count' (need_all types (types_of_record r) seen)
