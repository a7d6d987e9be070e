-- Run: steps until a value, spent fuel or a full table; what is answered and what is written.
use Rattle.std.specs.Prelude.{ℕ, zero, suc, List, [], ◌∷◌, ◌++◌, true, false, length, drop, ltb}
use Rattle.std.proofs.Math.Option.{Option, none, some}
use Rattle.rules.specs.Editions.{Edition}
use Rattle.rules.specs.Terms.{Term, size, type_of}
use Rattle.rules.specs.Types.{Table}
use Rattle.rules.specs.Conditions.{at_least}
use Rattle.rules.specs.Values.{value}
use Rattle.rules.specs.Steps.{Event}
use Rattle.rules.specs.Next.{next}
use Rattle.rules.specs.Format.{most_records, table_of}
use Rattle.rules.specs.Links.{first_term, written}
use Rattle.rules.specs.Refusals.{Refusal, output_short, work_short, unless, ◌then◌}
use Rattle.rules.specs.Check.{refusal}
use Rattle.rules.specs.Traces.{replaced_total}

-- "Ending (1 value, 2 spent, 3 full; endings that come later take the next numbers)."
pub data Ending : Type 0 where
  valued spent full : Ending

abbrev pub ending_number : Ending → ℕ
ending_number valued = 1
ending_number spent = 2
ending_number full = 3

-- The course of a run: how it ends, the events of its steps in order, and its last term.
pub record Course : Type 0 where
  pub ending : Ending
  pub trace : List Event
  pub last : Term

abbrev pub ended : Ending → Term → Course
ended e t = record { ending = e; trace = []; last = t }

abbrev pub after_step : Event → Course → Course
after_step e c = record { ending = c.ending; trace = e ∷ c.trace; last = c.last }

-- "A run makes steps until a value, spent fuel or a full table. With n steps made: ending value if the term is a value; else spent if n is the
-- fuel; else full, when the next term has more than 2,048 records." (A term that is no value and has no next one comes of no passed program.)
unfoldable pub course : Table → ℕ → Term → Course
course types zero t = elim (value t) [ true ↦ ended valued t | false ↦ ended spent t ]
course types (suc fuel) t = elim (value t) [
  | true ↦ ended valued t
  | false ↦ elim (next types 0 t) [
    | none ↦ ended spent t
    | some m ↦ elim (ltb most_records (size m.term)) [ true ↦ ended full t | false ↦ after_step m.event (course types fuel m.term) ]
  ]
]

-- What of its course a run is asked for: the steps are as many as the events, and the replaced variables those of all events.
pub record Outcome : Type 0 where
  pub ending : Ending
  pub steps : ℕ
  pub replaced : ℕ
  pub last : Term

abbrev pub outcome_of : Course → Outcome
outcome_of c = record { ending = c.ending; steps = length c.trace; replaced = replaced_total c.trace; last = c.last }

abbrev pub run : Table → ℕ → Term → Outcome
run types fuel t = outcome_of (course types fuel t)

-- The run of a program, from its first term.
abbrev pub program_course : List ℕ → ℕ → Course
program_course program fuel = course (table_of program) fuel (first_term program)

-- "It writes the same type table and the last term": what a run under this table that ends with t writes.
abbrev pub output : Table → Term → List ℕ
output types t = written types t

-- "Output beyond that length is unchanged": a buffer after these bytes were written to it.
abbrev pub written_over : List ℕ → List ℕ → List ℕ
written_over buffer bytes = bytes ++ drop (length bytes) buffer

-- 1 and 2, of the lengths of the output and work buffers that a call is lent; then check's.
abbrev pub output_needed : ℕ
output_needed = 34308

abbrev pub work_needed : ℕ
work_needed = 65536

abbrev pub buffers_refusal : ℕ → ℕ → Option Refusal
buffers_refusal out_length work_length = unless (at_least output_needed out_length ∷ []) output_short 0 then unless (at_least work_needed work_length ∷ []) work_short 0

abbrev pub run_refusal : Edition → List ℕ → ℕ → ℕ → Option Refusal
run_refusal edition program out_length work_length = buffers_refusal out_length work_length then refusal edition program

-- What a run answers.
pub record RunAnswer : Type 0 where
  pub number : ℕ
  pub place : ℕ
  pub ending : ℕ
  pub steps : ℕ
  pub root_type : ℕ
  pub written : ℕ
  pub replaced : ℕ

-- "An accepted run returns ending, n, root type and written length. Every accepted answer has number and place 0." By N2 "the result carries the total"
-- of the replaced variables "for all its steps".
abbrev pub accepted : Table → Course → RunAnswer
accepted types c = record {
  number = 0;
  place = 0;
  ending = ending_number c.ending;
  steps = length c.trace;
  root_type = type_of c.last;
  written = length (output types c.last);
  replaced = replaced_total c.trace;
}

-- "A refusal returns number and place, its other fields 0."
abbrev pub refused : ℕ → ℕ → RunAnswer
refused number place = record { number = number; place = place; ending = 0; steps = 0; root_type = 0; written = 0; replaced = 0 }

unfoldable pub run_answer : Edition → List ℕ → ℕ → ℕ → ℕ → RunAnswer
run_answer edition program fuel out_length work_length = elim (run_refusal edition program out_length work_length) [
  | none ↦ accepted (table_of program) (program_course program fuel)
  | some r ↦ refused r.number r.place
]

-- The output buffer after the call; of a refused call "buffers are untouched".
unfoldable pub run_output : Edition → List ℕ → ℕ → List ℕ → ℕ → List ℕ
run_output edition program fuel out work_length = elim (run_refusal edition program (length out) work_length) [
  | none ↦ written_over out (output (table_of program) (program_course program fuel).last)
  | some r ↦ out
]
