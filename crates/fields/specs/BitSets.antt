-- A set of numbers, held as bits: number k is bit k % 64 of word k / 64.
use Rattle.std.specs.Prelude.{ℕ, ◌+◌, ◌/◌, ◌%◌, ◌^◌, Bool, true, List, ◌≡◌, eqb, get_or}
use Rattle.rules.specs.Check.{is}

-- 1 where k is in the set, else 0.
unfoldable pub member : List ℕ → ℕ → ℕ
member set k = get_or set (k / 64) 0 / 2 ^ (k % 64) % 2

-- r is whether k was not in the set before. Where it was not, k alone has come in.
pub record Inserted (before after : List ℕ) (k : ℕ) (r : Bool) : Type 0 where
  pub told : r ≡ eqb (member before k) 0
  pub made : r ≡ true → (j : ℕ) → member after j ≡ member before j + is k j
