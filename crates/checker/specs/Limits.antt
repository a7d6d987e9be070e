-- How many entries and records a program has that 3, 4 and 5 pass.
use Rattle.std.specs.Prelude.{◌≤◌, ◌<◌, List, length}
use Rattle.rules.specs.Types.{Table}
use Rattle.rules.specs.Format.{Record, most_records}

pub record InLimits (table : Table) (rs : List Record) : Type 0 where
  pub few : length table < 65536
  pub most : length rs ≤ most_records
