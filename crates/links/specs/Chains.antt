-- Records whose links are as they say, for the chains of their children.
use Rattle.std.specs.Prelude.{ℕ, List}
use Rattle.rules.specs.Format.{Record}
use Rattle.rules.specs.Links.{NoBadLink}
use Rattle.records.specs.Places.{Within}

-- Record n of records no link of which is bad.
pub record Parent (rs : List Record) (n : ℕ) : Type 0 where
  pub good : NoBadLink rs
  pub within : Within rs n
