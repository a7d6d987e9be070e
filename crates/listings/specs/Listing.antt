-- The listing of an input, 4 bytes of fuel and a program: what the listing program prints.
use Rattle.std.specs.Prelude.{ℕ, ◌+◌, ◌*◌, List, true, false, eqb, ltb, length, drop}
use Rattle.rules.specs.Lists.{pick}
use Rattle.rules.specs.Editions.{first_edition}
use Rattle.rules.specs.Format.{most_records, u32, table_of, records_of}
use Rattle.rules.specs.Refusals.{program_short}
use Rattle.rules.specs.Run.{RunAnswer, program_course, output, output_needed, work_needed, run_answer}
use Rattle.listing_text.specs.Text.{refused_text, accepted_text}

-- The longest text: 64 bytes for each of 2,049 lines.
abbrev pub text_length : ℕ
text_length = 64 * (1 + most_records)

-- What is listed of a run's answer and of the bytes that it writes.
abbrev pub answer_text : RunAnswer → List ℕ → List ℕ
answer_text a bytes = pick (eqb a.number 0) (accepted_text a.ending a.steps a.root_type (records_of bytes)) (refused_text a.number a.place)

-- Of a program that is run with the fuel, in buffers that are long enough.
unfoldable pub run_text : List ℕ → ℕ → List ℕ
run_text program fuel = answer_text (run_answer first_edition program fuel output_needed work_needed) (output (table_of program) (program_course program fuel).last)

-- "The listing program reads 4 bytes of fuel and a program from standard input"; "fuel cut short is `refused 3 0`".
unfoldable pub listing_of : List ℕ → List ℕ
listing_of input = elim (ltb (length input) 4) [ true ↦ refused_text program_short 0 | false ↦ run_text (drop 4 input) (u32 input 0) ]
