-- Records that get the new numbers of the types that they name, from the first record of a list on.
use Rattle.std.specs.Prelude.{ℕ, zero, suc, ◌<◌, List, [], ◌∷◌, ◌≡◌, length, get_or, take}
use Rattle.rules.specs.Lists.{All, joined}
use Rattle.rules.specs.Types.{Table}
use Rattle.rules.specs.Format.{Record}
use Rattle.order.specs.FullTypes.{NamesType, GoodEntries}
use Rattle.order.specs.Order.{types_of_record, new_number, need_all, renumbered_record}
use Rattle.numbering.specs.Numbering.{Numbering}

-- The array has a place for each type that r names; and s is r with the numbers of the array.
pub record CanRenumberRecord (r : Record) (new : List ℕ) : Type 0 where
  pub room : All (λ x. x < length new) (types_of_record r)

pub record RenumbersRecord (r : Record) (new : List ℕ) (s : Record) : Type 0 where
  pub is : s ≡ renumbered_record (λ x. get_or new x 0) r

-- The records with other numbers in the first n of them: the rest stays.
unfoldable pub renumbered_front : (ℕ → ℕ) → ℕ → List Record → List Record
renumbered_front new zero rs = rs
renumbered_front new (suc n) [] = []
renumbered_front new (suc n) (r ∷ rs) = renumbered_record new r ∷ renumbered_front new n rs

-- The types that the first n records name, and those of the table that have a number for them.
abbrev pub front_names : ℕ → List Record → List ℕ
front_names n rs = joined types_of_record (take n rs)

abbrev pub front_uses : Table → ℕ → List Record → List ℕ
front_uses types n rs = need_all types (front_names n rs) []

-- The records can be renumbered: the types that they name are entries, and none has a number yet.
pub record CanRenumber (types : Table) (rs : List Record) (new : List ℕ) : Type 0 where
  pub good : GoodEntries types
  pub few : length types < 257
  pub short : length rs < 65536
  pub entries : All (NamesType types) (front_names (length rs) rs)
  pub numbering : Numbering types new 0 []

-- The types that the first n records name have numbers, and the records have these.
pub record Renumbers (types : Table) (rs : List Record) (n : ℕ) (rs' : List Record) (new : List ℕ) (count : ℕ) : Type 0 where
  pub numbering : Numbering types new count (front_uses types n rs)
  pub records : rs' ≡ renumbered_front (new_number (front_uses types n rs)) n rs
