-- What a run's answer and its output say of the program, where its buffers are long enough: the refusal, or the records of the last term.
use Prim.Native.Nat.{ℕ, ◌+◌, ◌*◌, ◌≤◌}
use native.Mathlib.Omega.{arith}
use mathlib.Core.List.{List}
use mathlib.Core.Option.{Option, none, some}
use mathlib.Core.Path.{◌≡◌, refl, sym, ap, ◌∙◌}
use borrow.Author.Tests.{eq-eqb, ne_eqb}
use lib.ListN.{length, take, drop, length-append}
use lib.Seq.{take_at}
use Rattle.rules.specs.Editions.{first_edition}
use Rattle.rules.specs.Terms.{Term}
use Rattle.rules.specs.FieldUses.{given}
use Rattle.rules.specs.Format.{most_records, type_count, record_count, table_of, records_of}
use Rattle.rules.specs.Links.{laid}
use Rattle.rules.specs.Refusals.{Refusal, OneOfTwelve, ◌then◌}
use Rattle.rules.specs.Check.{refusal}
use Rattle.rules.specs.Meets.{Meets}
use Rattle.rules.specs.Run.{Ending, valued, spent, full, ending_number, program_course, output, accepted, refused, output_needed, work_needed, run_refusal, run_answer, run_output}
use Rattle.rules.proofs.General.{Gives}
use Rattle.rules.proofs.Twelve.{refusal_numbered}
use Rattle.rules.proofs.Meaning.{buffers_passed, exactly}
use Rattle.rules.proofs.Laid.{length_laid}
use Rattle.rules.proofs.Bytes.{Back}
use Rattle.rules.proofs.Written.{GoodTable, back, layout_table}
use Rattle.rules.proofs.Whole.{last_typed, last_small}
use Rattle.parts.specs.Layout.{IsLaidOut}
use Rattle.run_call.specs.declared.RunAnswer.{RunAnswer}
use Rattle.run_call.specs.Answers.{run_meant, Accepted, Ran}
use Rattle.listing_text.specs.Text.{refused_text, accepted_text}
use Rattle.listings.specs.Listing.{answer_text, run_text}

-- The first bytes, as many as are written, are a program with the records of the last term, and what is listed of the run is made of them and of the answer.
pub record Listed (p : List ℕ) (fuel : ℕ) (a : RunAnswer) (out : List ℕ) : Type 0 where
  pub ending : (1 ≤ a.ending) × (a.ending ≤ 3)
  pub to : a.written ≤ length out
  pub laid_out : IsLaidOut (take a.written out)
  pub few : length (records_of (take a.written out)) ≤ most_records
  pub text : accepted_text a.ending a.steps a.root_type (records_of (take a.written out)) ≡ run_text p fuel

ending_range : (e : Ending) → (1 ≤ ending_number e) × (ending_number e ≤ 3)
ending_range valued = omega arith
ending_range spent = omega arith
ending_range full = omega arith

-- With buffers that are long enough a run is refused as check refuses.
buffers_long : (p : List ℕ) (o w : ℕ) → output_needed ≤ o → work_needed ≤ w → run_refusal first_edition p o w ≡ refusal first_edition p
unfolding ◌then◌
buffers_long p o w room slots = ap (λ q. q then refusal first_edition p) (buffers_passed o w room slots)

-- The answer does not depend on how long the buffers are, if they are long enough.
answer_same : (p : List ℕ) (fuel o w : ℕ) → output_needed ≤ o → work_needed ≤ w → run_answer first_edition p fuel o w ≡ run_answer first_edition p fuel output_needed work_needed
unfolding run_answer
answer_same p fuel o w room slots =
    let n = buffers_long p o w room slots ∙ sym (buffers_long p output_needed work_needed (omega arith) (omega arith)) in
    ap (λ (q : Option Refusal). elim q [ none ↦ accepted (table_of p) (program_course p fuel) | some r ↦ refused r.number r.place ]) n

module _ (p : List ℕ) (fuel : ℕ) (out work : List ℕ) (room : output_needed ≤ length out) (slots : work_needed ≤ length work) where
  abbrev last : Term
  last = (program_course p fuel).last

  -- What is written.
  abbrev bytes : List ℕ
  bytes = output (table_of p) last

  module _ (a : RunAnswer) (out' work' : List ℕ) (ran : Ran p fuel out work a out' work') where
    text_is : answer_text (run_meant a) bytes ≡ run_text p fuel
    unfolding run_text
    text_is = ap (λ x. answer_text x bytes) (ran.answer ∙ answer_same p fuel (length out) (length work) room slots)

    pub run_refused : (a.number ≡ 0 → ⊥) → refused_text a.number a.place ≡ run_text p fuel
    run_refused n = rw (ne_eqb a.number 0 n) at text_is

    answer_refused : (q : Refusal) → refusal first_edition p ≡ some q → run_meant a ≡ refused q.number q.place
    unfolding run_answer
    answer_refused q e = rw (buffers_long p (length out) (length work) room slots ∙ e, run_answer) at ran.answer

    run_passed : a.number ≡ 0 → refusal first_edition p ≡ none
    run_passed z = go (refusal first_edition p) refl (refusal_numbered first_edition p)
      where
        go : (o : Option Refusal) → refusal first_edition p ≡ o → Gives OneOfTwelve o → o ≡ none
        go none e h = refl
        go (some q) e h = absurd (omega (arith, ap (λ x. x.number) (answer_refused q e)))

    module _ (z : a.number ≡ 0) where
      accepted_run : Accepted p fuel out out' a
      unfolding run_answer run_output
      accepted_run =
          let n = buffers_long p (length out) (length work) room slots ∙ run_passed z in
          record { answer = rw (n, run_answer) at ran.answer; output = rw (n, run_output) at ran.output }

      m : Meets first_edition p
      m = (exactly first_edition p).0 (run_passed z)

      table_good : GoodTable (table_of p)
      table_good = layout_table given first_edition p m.layout

      last_back : Back (table_of p) (laid 1 0 last)
      last_back = back (table_of p) last table_good (last_typed first_edition (omega arith) p m fuel).0 (last_small first_edition (omega arith) p m fuel)

      written_is : a.written ≡ length bytes
      written_is = ap (λ x. x.written) accepted_run.answer

      exact : length bytes ≡ 4 + 6 * type_count bytes + 16 * record_count bytes
      exact = omega (arith, last_back.length_back, last_back.type_count_back, last_back.record_count_back)

      front_is : take a.written out' ≡ bytes
      front_is = ap (take a.written) accepted_run.output ∙ take_at bytes (drop (length bytes) out) a.written (sym written_is)

      pub run_listed : Listed p fuel a out'
      run_listed = record {
        ending = rw (ap (λ x. x.ending) accepted_run.answer) (ending_range (program_course p fuel).ending);
        to = omega (arith, written_is, ap length accepted_run.output, length-append bytes (drop (length bytes) out));
        laid_out = rw front_is (record { exact = exact });
        few = rw front_is (omega (arith, ap length last_back.records_back, length_laid 1 0 last, last_small first_edition (omega arith) p m fuel));
        text = rw front_is (rw (eq-eqb a.number 0 z) at text_is);
      }
