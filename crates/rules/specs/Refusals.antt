-- Refusals: the numbers of document 01's table, and how checks follow one another.
use Rattle.std.specs.Prelude.{ℕ, zero, suc, ◌≤◌}
use Rattle.std.proofs.Math.Option.{Option, none, some}
use Rattle.rules.specs.Lists.{pick}
use Rattle.rules.specs.Conditions.{Rule, holds}

pub record Refusal : Type 0 where
  pub number : ℕ
  pub place : ℕ

-- 1 output under 34,308 bytes. 2 work under 65,536 bytes. 3 program under 4 bytes. 4 T or R outside its limits. 5 length isn't
-- 4 + 6×T + 16×R. 6 bad type entry. 7 bad kind, type, a, b or value. 8 record that holds a bad link; record other than the root not named
-- exactly once. 9 wrong number of children. 10 index not below its binders. 11 kind or binder at a wrong level. 12 type rule broken.
abbrev pub output_short : ℕ
output_short = 1

abbrev pub work_short : ℕ
work_short = 2

abbrev pub program_short : ℕ
program_short = 3

abbrev pub bad_counts : ℕ
bad_counts = 4

abbrev pub bad_length : ℕ
bad_length = 5

abbrev pub bad_entry : ℕ
bad_entry = 6

abbrev pub bad_field : ℕ
bad_field = 7

abbrev pub bad_link : ℕ
bad_link = 8

abbrev pub bad_children : ℕ
bad_children = 9

abbrev pub bad_index : ℕ
bad_index = 10

abbrev pub bad_level : ℕ
bad_level = 11

abbrev pub bad_type : ℕ
bad_type = 12

-- Document 02, N1: 13 a nonzero type field. 14 its type would be a 257th entry.
abbrev pub type_written : ℕ
type_written = 13

abbrev pub table_full : ℕ
table_full = 14

-- A refusal is one of the numbers 1 to n: of check and run one of document 01's twelve (theorem `one_of_twelve`).
abbrev pub NumberedTo : ℕ → Refusal → Type 0
NumberedTo n r = (output_short ≤ r.number) × (r.number ≤ n)

abbrev pub OneOfTwelve : Refusal → Type 0
OneOfTwelve = NumberedTo bad_type

-- Refused by number n at the place, unless the rule holds.
unfoldable pub unless : Rule → ℕ → ℕ → Option Refusal
unless r n place = pick (holds r) none (some (record { number = n; place = place }))

-- "Checks go in this order": the first refusal is the answer.
infixr 20 ◌then◌
unfoldable pub ◌then◌ : Option Refusal → Option Refusal → Option Refusal
none then y = y
some r then y = some r

-- "Numbers 6 to 9 each look at all entries or records and name the lowest": of the `count` numbers from `from`, the lowest whose rule is
-- broken is refused by number n.
unfoldable pub lowest : (ℕ → Rule) → ℕ → ℕ → ℕ → Option Refusal
lowest rule n from zero = none
lowest rule n from (suc count) = unless (rule from) n from then lowest rule n (suc from) count
