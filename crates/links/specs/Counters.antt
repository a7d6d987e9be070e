-- The counters, for "every other record is named by exactly one link". Counter k holds how many links name record k + 1.
use Rattle.std.specs.Prelude.{ℕ, ◌+◌, ◌-◌, ◌≤◌, ◌<◌, List, ◌≡◌, eqb, length, get_or, set}
use Rattle.rules.specs.Lists.{pick}
use Rattle.rules.specs.Format.{Record}
use Rattle.rules.specs.Check.{naming}
use Rattle.records.specs.Places.{Within}

-- The counters when one more link names record m; 0 is no record.
unfoldable pub bumped : List ℕ → ℕ → List ℕ
bumped counts m = pick (eqb m 0) counts (set counts (m - 1) (get_or counts (m - 1) 0 + 1))

-- Record m has a counter, which has room for one more.
pub record CanBump (counts : List ℕ) (m : ℕ) : Type 0 where
  pub room : m ≤ length counts
  pub small : get_or counts (m - 1) 0 < 65535

-- There is a record n among records that a number of 16 bits counts, and the links that name it are counted.
pub record CanJudge (rs : List Record) (counts : List ℕ) (n : ℕ) : Type 0 where
  pub few : length rs < 65536
  pub within : Within rs n
  pub room : n ≤ length counts
  pub counted : get_or counts (n - 1) 0 ≡ naming rs n
