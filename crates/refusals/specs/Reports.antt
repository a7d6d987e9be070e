-- What a check reports of what the rules refuse.
use Rattle.std.specs.Prelude.{ℕ, Bool, true, false, ◌≤◌, ◌<◌, ◌≡◌, Result, Ok, Err}
use Rattle.std.proofs.Math.Option.{Option, none, some}
use Rattle.rules.specs.Refusals.{output_short, work_short, program_short, bad_counts, bad_length, bad_entry, bad_field, bad_link, bad_children, bad_index, bad_level, bad_type, type_written, table_full}
use Rattle.rules.specs.Refusals.{Refusal as MeantRefusal}
use Rattle.refusals.specs.declared.reasons.Reason.{Reason}
use Rattle.refusals.specs.declared.reasons.Reason.TheVariants.{OutputShort, WorkShort, ProgramShort, BadCounts, BadLength, BadEntry, BadField, BadLink, BadChildren, BadIndex, BadLevel, BadType, TypeWritten, TableFull}
use Rattle.refusals.specs.declared.reasons.Refusal.{Refusal}

abbrev pub reason_number : Reason → ℕ
reason_number OutputShort = output_short
reason_number WorkShort = work_short
reason_number ProgramShort = program_short
reason_number BadCounts = bad_counts
reason_number BadLength = bad_length
reason_number BadEntry = bad_entry
reason_number BadField = bad_field
reason_number BadLink = bad_link
reason_number BadChildren = bad_children
reason_number BadIndex = bad_index
reason_number BadLevel = bad_level
reason_number BadType = bad_type
reason_number TypeWritten = type_written
reason_number TableFull = table_full

-- The refusal of the rules that a refusal by value is.
abbrev pub refusal_meant : Refusal → MeantRefusal
refusal_meant r = record { number = reason_number r.reason; place = r.place }

abbrev pub refusal_by : ℕ → ℕ → MeantRefusal
refusal_by number place = record { number = number; place = place }

-- A check that comes out well refuses nothing, and else its error is the refusal.
abbrev pub reported : {X : Type 0} → Result X Refusal → Option MeantRefusal
reported (Ok x) = none
reported (Err r) = some (refusal_meant r)

abbrev pub Reports : {X : Type 0} → Result X Refusal → Option MeantRefusal → Type 0
Reports r o = reported r ≡ o

-- The same of a check whose error is a reason alone, by which the whole is refused: the place is 0.
abbrev pub reported_whole : {X : Type 0} → Result X Reason → Option MeantRefusal
reported_whole (Ok x) = none
reported_whole (Err reason) = some (refusal_by (reason_number reason) 0)

abbrev pub ReportsWhole : {X : Type 0} → Result X Reason → Option MeantRefusal → Type 0
ReportsWhole r o = reported_whole r ≡ o

-- What a scan of the numbers 1 to `count` finds, where `Post n b` is so of what the test of n answers: all pass; or the lowest that doesn't, and is refused.
abbrev pub FindsLowest : (ℕ → Bool → Type 0) → Reason → ℕ → Result Unit Refusal → Type 0
FindsLowest Post reason count (Ok x) = (n : ℕ) → 1 ≤ n → n ≤ count → Post n true
FindsLowest Post reason count (Err r) = (r.reason ≡ reason) × (1 ≤ r.place) × (r.place ≤ count) × Post r.place false × ((n : ℕ) → 1 ≤ n → n < r.place → Post n true)
