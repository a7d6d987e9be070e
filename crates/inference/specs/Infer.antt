-- Document 02, N1, "A new call takes programs whose type fields are all 0 .. and writes the typed program in preorder": the call as a function of the
-- program's bytes and the buffers, and what a filling is.
use Rattle.std.specs.Prelude.{ℕ, ◌+◌, ◌≤◌, ◌<◌, List, [], ◌≡◌, length}
use Rattle.rules.specs.Editions.{Edition}
use Rattle.rules.specs.Terms.{Term, size, type_of}
use Rattle.rules.specs.Types.{Table}
use Rattle.rules.specs.Conditions.{Holds}
use Rattle.rules.specs.FieldUses.{omitted}
use Rattle.rules.specs.Typing.{Typed}
use Rattle.rules.specs.Format.{Record, most_types, record_count, table_of, records_of}
use Rattle.rules.specs.Links.{first_term, written}
use Rattle.rules.specs.Refusals.{Refusal, NumberedTo, table_full}
use Rattle.rules.specs.Check.{entry_rule, layout_refusal}
use Rattle.rules.specs.Run.{written_over, buffers_refusal}
use Rattle.rules.specs.WholeRun.{Passed}
use Rattle.inference.specs.Inference.{Begins, retyped_record, cleared, Inference, faulty, filled, unless_refused, inferred_from}

-- "Checks: 1 to 9 as for run, except that 7 doesn't look at the type field; 13 a nonzero type field, right after 7, lowest record; then, in place
-- of preorder, the first faulty record children first, with its lowest of 10, 11, 12 and 14." Those of the program, from 3 on.
unfoldable pub inference : Edition → List ℕ → Inference
inference edition program = unless_refused (layout_refusal omitted edition program) (inferred_from (length (records_of program)) (table_of program) (records_of program) [] 0 1)

-- "The call lends run's output and work buffers": 1 and 2, of their lengths, come first.
unfoldable pub inference_lent : Edition → List ℕ → ℕ → ℕ → Inference
inference_lent edition program out_length work_length = unless_refused (buffers_refusal out_length work_length) (inference edition program)

-- "Returning root type and length". A refusal has number and place, its other fields 0.
pub record InferAnswer : Type 0 where
  pub number : ℕ
  pub place : ℕ
  pub root_type : ℕ
  pub written : ℕ

abbrev pub answer_of : Inference → InferAnswer
answer_of (faulty r) = record { number = r.number; place = r.place; root_type = 0; written = 0 }
answer_of (filled types t) = record { number = 0; place = 0; root_type = type_of t; written = length (written types t) }

-- "Bytes beyond the written program stay unchanged"; a refused call changes nothing.
abbrev pub output_of : Inference → List ℕ → List ℕ
output_of (faulty r) out = out
output_of (filled types t) out = written_over out (written types t)

unfoldable pub infer_answer : Edition → List ℕ → ℕ → ℕ → InferAnswer
infer_answer edition program out_length work_length = answer_of (inference_lent edition program out_length work_length)

unfoldable pub infer_output : Edition → List ℕ → List ℕ → ℕ → List ℕ
infer_output edition program out work_length = output_of (inference_lent edition program (length out) work_length) out

-- A refusal is one of the call's fourteen (theorem `one_of_fourteen`).
abbrev pub OneOfFourteen : Refusal → Type 0
OneOfFourteen = NumberedTo table_full

-- "Some filling passes, within 256 entries": a table that begins with the given one, and a term that is typed in it and, its types cleared, is
-- the given one.
pub record Filling (types : Table) (given : Term) (B : Table) (u : Term) : Type 0 where
  pub begins : Begins types B
  pub few : length B ≤ most_types
  pub entries : (n : ℕ) → 1 ≤ n → n < 1 + length B → Holds (entry_rule B n)
  pub typed : Typed B [] 0 u
  pub back : cleared u ≡ given

abbrev pub SomeFilling : List ℕ → Type 0
SomeFilling program = (B : Table) × (u : Term) × Filling (table_of program) (first_term program) B u

-- A record with its type cleared.
abbrev pub cleared_record : Record → Record
cleared_record = retyped_record 0

-- What is written for a program: a filling of its tree, of as many records, which passes and is read back as it is: "the output passes, and clearing
-- its types gives the input's tree back".
pub record Answered (edition : Edition) (program : List ℕ) (A : Table) (t : Term) : Type 0 where
  pub filling : Filling (table_of program) (first_term program) A t
  pub records : size t ≡ record_count program
  pub passed : Passed edition A t
