-- Records that are copied as they are, from one part of a list to another.
use Rattle.std.specs.Prelude.{ℕ, ◌+◌, ◌≤◌, List, ◌⊎◌, ◌≡◌, length}
use Rattle.rules.specs.Format.{Record}
use Rattle.terms.specs.Preorder.{puts, part}

-- n records from src on can be copied to dst, the first of them first: both parts are in the list, and no record is overwritten before it is copied.
pub record CanMove (rs : List Record) (src dst n : ℕ) : Type 0 where
  pub from : src + n ≤ length rs
  pub to : dst + n ≤ length rs
  pub apart : (src + n ≤ dst) ⊎ (dst ≤ src)

-- rs' is rs with the n records from src on copied to dst.
pub record Moved (rs rs' : List Record) (src dst n : ℕ) : Type 0 where
  pub is : rs' ≡ puts rs dst (part rs src n)
