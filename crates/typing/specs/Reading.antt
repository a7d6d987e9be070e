-- What is read of a record by its number, in which 0 is no record, and of its children.
use Rattle.std.specs.Prelude.{ℕ, ◌≤◌, ◌≡◌, List, length}
use Rattle.rules.specs.Kinds.{Kind, kind_of}
use Rattle.rules.specs.Terms.{Fields}
use Rattle.rules.specs.Format.{Record, record_no}
use Rattle.rules.specs.Links.{NoBadLink, first_of, next_of}
use Rattle.rules.specs.Check.{type_no}

-- n is a record, and no link is bad.
pub record CanRead (rs : List Record) (n : ℕ) : Type 0 where
  pub linked : NoBadLink rs
  pub real : 1 ≤ n
  pub within : n ≤ length rs

-- t is the written type of record n.
pub record IsType (rs : List Record) (n t : ℕ) : Type 0 where
  pub is : t ≡ type_no rs n

-- The children of record n after the first.
abbrev pub second_of : List Record → ℕ → ℕ
second_of rs n = next_of rs (first_of rs n)

abbrev pub third_of : List Record → ℕ → ℕ
third_of rs n = next_of rs (second_of rs n)

-- The kind of record n and its fields.
abbrev pub kind_no : List Record → ℕ → Kind
kind_no rs n = kind_of (record_no rs n).kind

abbrev pub fields_no : List Record → ℕ → Fields
fields_no rs n = (record_no rs n).fields
