-- Programs at the limits: "T type entries (1 to 256) and R records (1 to 2,048)" are passed.
use Rattle.std.specs.Prelude.{ℕ, zero, suc, ◌∷◌, ◌≡◌, length}
use Rattle.rules.specs.Lists.{listed}
use Rattle.rules.specs.Editions.{first_edition}
use Rattle.rules.specs.Terms.{Term, size}
use Rattle.rules.specs.Types.{Table, Nat, Code}
use Rattle.rules.specs.Format.{most_types, most_records}
use Rattle.rules.specs.WholeRun.{Passed}
use Rattle.rules.specs.BenchSheet.{table, nat, nat_code, num, quo, spl}

-- 256 entries: Nat, its code, the code of that, and so on.
abbrev pub codes : Table
codes = Nat ∷ listed Code 1 255

-- 2,048 records: quote(splice(quote(splice( .. quote 7)))).
abbrev pub nested : ℕ → Term
nested zero = quo nat_code (num 7)
nested (suc n) = quo nat_code (spl nat (nested n))

pub record LimitsPassed : Type 0 where
  pub types : length codes ≡ most_types
  pub types_passed : Passed first_edition codes (num 7)
  pub records : size (nested 1023) ≡ most_records
  pub records_passed : Passed first_edition table (nested 1023)
