-- A table that is put in another order: the entry of each type that has a number goes to that number's place, its parts by their numbers.
use Rattle.std.specs.Prelude.{ℕ, zero, suc, ◌-◌, ◌≤◌, ◌<◌, List, ◌≡◌, eqb, length, get_or, set}
use Rattle.rules.specs.Lists.{pick}
use Rattle.rules.specs.Types.{Entry, Table, entry}
use Rattle.order.specs.FullTypes.{NamesType, GoodEntries}

-- An entry, its parts by their numbers in the array.
abbrev pub entry_by : List ℕ → Entry → Entry
entry_by new e = record { kind = e.kind; a = get_or new e.a 0; b = get_or new e.b 0 }

-- The entries `es` with that of type x at its place; and with those of types 1 to n.
unfoldable pub with_entry : Table → List ℕ → ℕ → Table → Table
with_entry types new x es = pick (eqb (get_or new x 0) 0) es (set es (get_or new x 0 - 1) (entry_by new (entry types x)))

unfoldable pub with_entries : Table → List ℕ → ℕ → Table → Table
with_entries types new zero es = es
with_entries types new (suc n) es = with_entry types new (suc n) (with_entries types new n es)

-- Type x is an entry, the array has a place for each type, and the entries `es` for each number.
pub record CanOrderEntry (types : Table) (x : ℕ) (new : List ℕ) (es : Table) : Type 0 where
  pub good : GoodEntries types
  pub is : NamesType types x
  pub room : length types < length new
  pub fits : (x : ℕ) → x ≤ length types → get_or new x 0 ≤ length es

pub record OrdersEntry (types : Table) (x : ℕ) (new : List ℕ) (es es' : Table) : Type 0 where
  pub is : es' ≡ with_entry types new x es

-- The same for all types of the table.
pub record CanOrderTable (types : Table) (new : List ℕ) (es : Table) : Type 0 where
  pub few : length types < 65536
  pub good : GoodEntries types
  pub room : length types < length new
  pub fits : (x : ℕ) → x ≤ length types → get_or new x 0 ≤ length es

pub record OrdersTable (types : Table) (count : ℕ) (new : List ℕ) (es es' : Table) : Type 0 where
  pub is : es' ≡ with_entries types new count es
