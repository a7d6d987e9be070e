-- Accepted runs, as their callers see them: demand 3, a run of what was written, and runs of inputs that differ just in table order or unused entries.
use Prim.Native.Nat.{ℕ, ◌≤◌}
use native.Mathlib.Omega.{arith}
use mathlib.Core.List.{List, []}
use mathlib.Core.Option.{none}
use mathlib.Core.Path.{◌≡◌, refl, ap, ◌∙◌}
use lib.ListN.{length}
use Rattle.rules.specs.Editions.{Edition, HasEveryKind}
use Rattle.rules.specs.Terms.{Term, size, type_of}
use Rattle.rules.specs.Types.{Table}
use Rattle.rules.specs.FieldUses.{given}
use Rattle.rules.specs.Typing.{Typed}
use Rattle.rules.specs.Values.{value}
use Rattle.rules.specs.Format.{most_records, table_of}
use Rattle.rules.specs.Links.{first_term}
use Rattle.rules.specs.Refusals.{output_short}
use Rattle.rules.specs.Meets.{Meets}
use Rattle.order.specs.FullTypes.{GoodEntries}
use Rattle.order.specs.Alike.{SameProgram}
use Rattle.rules.specs.Traces.{replaced_total}
use Rattle.rules.specs.Run.{ending_number, Course, course, program_course, written_over, output_needed, work_needed, run_refusal}
use Rattle.order.specs.RunInOrder.{output_in_order, accepted_in_order, run_answer_in_order, run_output_in_order}
use Rattle.order.specs.WholeRun.{WrittenInOrder, Demand3InOrder}
use Rattle.rules.proofs.General.{tested}
use Rattle.rules.proofs.Tests.{both_pass, pass_both, holds_unless}
use Rattle.rules.proofs.Meaning.{exactly, buffers_passed}
use Rattle.rules.proofs.Written.{GoodTable, layout_table}
use Rattle.rules.proofs.Whole.{program_run, last_typed, last_small}
use Rattle.order.proofs.Same.{same_written, same_output}
use Rattle.order.proofs.Output.{output_short_lem, output_meets, file_again, written_in_order}
use Rattle.order.proofs.Courses.{SameCourse, course_same}
use Rattle.order.proofs.Programs.{same_first}

-- A run without fuel makes no step.
still : (types : Table) (t : Term) → (course types 0 t).last ≡ t
unfolding course
still types t = tested (λ (c : Course). c.last ≡ t) (value t) _ _ (λ _. refl) (λ _. refl)

-- "A run of fuel 0 on a written file gives the same bytes", with buffers that are long enough: what was written for a typed term.
module _ (edition : Edition) (all : HasEveryKind edition) (types : Table) (table : GoodTable types) (t : Term) (typed : Typed types [] 0 t) (small : size t ≤ most_records) where
  module _ (out : List ℕ) (work_length : ℕ) (o : output_needed ≤ length out) (w : work_needed ≤ work_length) where
    pub written_accepted : run_refusal edition (output_in_order types t) (length out) work_length ≡ none
    written_accepted = pass_both (buffers_passed (length out) work_length o w) ((exactly edition (output_in_order types t)).1 (output_meets types table t typed small edition all))

    pub written_again : run_output_in_order edition (output_in_order types t) 0 out work_length ≡ written_over out (output_in_order types t)
    unfolding run_output_in_order
    written_again = rw (written_accepted, run_output_in_order)
        (ap (written_over out) (ap (output_in_order (table_of (output_in_order types t))) (still (table_of (output_in_order types t)) (first_term (output_in_order types t))) ∙ file_again types table t typed small))

-- The last term of a program that meets the rules.
module _ (edition : Edition) (all : HasEveryKind edition) (program : List ℕ) (m : Meets edition program) (fuel : ℕ) where
  abbrev last : Term
  last = (program_course program fuel).last

  table : GoodTable (table_of program)
  table = layout_table given edition program m.layout

  typed : Typed (table_of program) [] 0 last
  typed = (last_typed edition all program m fuel).0

  small : size last ≤ most_records
  small = last_small edition all program m fuel

  pub last_in_order : WrittenInOrder edition (table_of program) last
  last_in_order = written_in_order (table_of program) table last typed small edition all

  pub last_short : length (output_in_order (table_of program) last) ≤ output_needed
  last_short = omega (arith, output_short_lem (table_of program) table last typed small, table.few, small)

module _ (edition : Edition) (all : HasEveryKind edition) (program : List ℕ) (fuel : ℕ) (out : List ℕ) (work_length : ℕ) (unrefused : run_refusal edition program (length out) work_length ≡ none) where
  met : Meets edition program
  met = (exactly edition program).0 (both_pass _ _ unrefused).1

  -- Demand 3: every accepted run, whatever the buffers hold.
  pub demand_3_in_order : Demand3InOrder edition program fuel out work_length
  unfolding run_answer_in_order run_output_in_order
  demand_3_in_order =
      let (o, _) = holds_unless _ output_short 0 (both_pass _ _ (both_pass _ _ unrefused).0).0 in
      record {
        course = program_course program fuel;
        whole = program_run edition all program met fuel;
        answers = rw (unrefused, run_answer_in_order);
        writes = rw (unrefused, run_output_in_order);
        fits = omega (arith, last_short edition all program met fuel);
        in_order = last_in_order edition all program met fuel;
      }

  -- What an accepted run wrote is accepted, and run with fuel 0 it gives the same bytes.
  pub run_again : (out' : List ℕ) (work_length' : ℕ) → output_needed ≤ length out' → work_needed ≤ work_length'
      → let file = output_in_order (table_of program) (program_course program fuel).last in
      (run_refusal edition file (length out') work_length' ≡ none) × (run_output_in_order edition file 0 out' work_length' ≡ written_over out' file)
  run_again out' work_length' o w =
      let types = table_of program in
      let good = table edition all program met fuel in
      let h = typed edition all program met fuel in
      let s = small edition all program met fuel in
      (written_accepted edition all types good _ h s out' work_length' o w, written_again edition all types good _ h s out' work_length' o w)

-- "Two accepted inputs with equal fuel .. that differ just in table order or unused entries write alike": and all fields of their answers are alike.
module _ (edition : Edition) (p q : List ℕ) (same : SameProgram given p q) (fuel : ℕ) (out : List ℕ) (work_length : ℕ)
    (accepted_p : run_refusal edition p (length out) work_length ≡ none) (accepted_q : run_refusal edition q (length out) work_length ≡ none) where
  m : Meets edition p
  m = (exactly edition p).0 (both_pass _ _ accepted_p).1

  n : Meets edition q
  n = (exactly edition q).0 (both_pass _ _ accepted_q).1

  good : GoodEntries (table_of p)
  good = m.layout.form.entries

  good' : GoodEntries (table_of q)
  good' = n.layout.form.entries

  courses : SameCourse (table_of p) (table_of q) (program_course p fuel) (program_course q fuel)
  courses = course_same (table_of p) (table_of q) good good' fuel (same_first given edition p q m.layout same) m.typed

  bytes_alike : output_in_order (table_of p) (program_course p fuel).last ≡ output_in_order (table_of q) (program_course q fuel).last
  bytes_alike = same_output (table_of p) (table_of q) good good' courses.last

  answers_alike : accepted_in_order (table_of p) (program_course p fuel) ≡ accepted_in_order (table_of q) (program_course q fuel)
  answers_alike = λ i. record {
    number = 0;
    place = 0;
    ending = ending_number (courses.ending i);
    steps = length (courses.trace i);
    root_type = type_of (same_written (table_of p) (table_of q) good good' courses.last i);
    written = length (bytes_alike i);
    replaced = replaced_total (courses.trace i);
  }

  pub inputs_answer_alike : run_answer_in_order edition p fuel (length out) work_length ≡ run_answer_in_order edition q fuel (length out) work_length
  unfolding run_answer_in_order
  inputs_answer_alike = rw (accepted_p, accepted_q, run_answer_in_order) answers_alike

  pub inputs_write_alike : run_output_in_order edition p fuel out work_length ≡ run_output_in_order edition q fuel out work_length
  unfolding run_output_in_order
  inputs_write_alike = rw (accepted_p, accepted_q, run_output_in_order) (ap (written_over out) bytes_alike)
