-- Earlier entries by their parts, noted in a set: Nat has none, Code(a) has one and Fn(a,b) has two, so that good entries with the same parts are
-- the same.
use Rattle.std.specs.Prelude.{ℕ, ◌+◌, ◌-◌, ◌*◌, ◌≤◌, Bool, true, List, ◌≡◌, length}
use Rattle.rules.specs.Lists.{total}
use Rattle.rules.specs.Types.{Entry, Table, entry}
use Rattle.rules.specs.Conditions.{Holds, holds}
use Rattle.rules.specs.Check.{is, kind_rule, entry_rule}
use Rattle.records.specs.Places.{Within}
use Rattle.fields.specs.BitSets.{member}

-- Both parts in one number, where the second is below 256.
abbrev pub parts : Entry → ℕ
parts x = 256 * x.a + x.b

-- The first n entries are of kinds that there are, and the set has their parts: a number is in it as often as it is the parts of one of them.
pub record Noted (types : Table) (seen : List ℕ) (n : ℕ) : Type 0 where
  pub kinds : (m : ℕ) → 1 ≤ m → m ≤ n → Holds (kind_rule m (entry types m))
  pub counted : (k : ℕ) → member seen k ≡ total (λ m. is (parts (entry types m)) k) 1 n

-- Entry n can be looked up: those before it are noted, and the set has room for its parts.
pub record CanNote (types : Table) (seen : List ℕ) (n : ℕ) : Type 0 where
  pub within : Within types n
  pub few : n ≤ 256
  pub room : 4 * n ≤ length seen
  pub noted : Noted types seen (n - 1)

-- r is whether entry n is good, and where it is, it is noted.
pub record Notes (types : Table) (after : List ℕ) (n : ℕ) (r : Bool) : Type 0 where
  pub told : r ≡ holds (entry_rule types n)
  pub noted : r ≡ true → Noted types after n

-- A table of up to 256 entries can be scanned with a set of four words for each, and no more than for 256.
pub record CanScanTable (types : Table) (words : ℕ) : Type 0 where
  pub few : length types ≤ 256
  pub room : 4 * length types ≤ words
  pub most : words ≤ 1024
