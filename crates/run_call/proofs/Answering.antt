-- The run call: refusals 1 and 2, then check's, then the accepted run.
use Prim.Native.Nat.{ℕ, ◌≤◌}
use native.Mathlib.Omega.{arith}
use mathlib.Core.List.{List, ◌++◌}
use mathlib.Core.Option.{Option, none, some}
use mathlib.Core.Path.{◌≡◌, refl, sym, ◌∙◌}
use lib.ListN.{length, take, drop, length-append, length-drop}
use lib.Seq.{length-take-le, drop_at}
use Rattle.kinds.specs.declared.editions.Edition.{Edition}
use Rattle.rules.specs.Editions.{first_edition}
use Rattle.kinds.specs.Meant.{edition_meant}
use Rattle.rules.specs.Refusals.{Refusal}
use Rattle.rules.specs.Check.{refusal}
use Rattle.rules.specs.Run.{refused, work_needed, buffers_refusal, run_refusal, run_answer, run_output}
use Rattle.rules.proofs.Tests.{never, both_pass}
use Rattle.rules.proofs.Meaning.{exactly}
use Rattle.rules.proofs.Whole.{demand_3}
use Rattle.refusals.proofs.Reporting.{reports_first, reports_next}
use Rattle.lending.proofs.Lengths.{lent_output, lent_work}
use Rattle.running.specs.Programs.{CanRunProgram}
use Rattle.run_call.specs.declared.RunAnswer.{RunAnswer}
use Rattle.run_call.specs.Answers.{run_meant, Accepted, Ran}

-- The refusal of a call: 1 and 2, and with buffers that are long enough check's.
module _ (p : List ℕ) (o w : ℕ) where
  pub buffers_refused : (m : Refusal) → some m ≡ buffers_refusal o w → some m ≡ run_refusal first_edition p o w
  buffers_refused m t = reports_first m _ _ t

  pub program_told : none ≡ buffers_refusal o w → (e : Edition) → edition_meant e ≡ first_edition → (q : Option Refusal) → q ≡ refusal (edition_meant e) p → q ≡ run_refusal first_edition p o w
  program_told lent e first q t = reports_next q _ _ lent (rw first at t)

module _ (p : List ℕ) (fuel : ℕ) (out work : List ℕ) (r : RunAnswer) where
  -- A refused call has the refusal's answer, and changes nothing.
  pub ran_refused : (m : Refusal) → some m ≡ run_refusal first_edition p (length out) (length work) → run_meant r ≡ refused m.number m.place → Ran p fuel out work r out work
  unfolding run_answer run_output
  ran_refused m t a =
      let e = sym t in
      record {
        answer = rw (e, run_answer) a;
        output = rw (e, run_output);
        work_length = refl;
        work_beyond = refl;
        work_refused = λ q h. refl;
        whole = λ z. absurd (never (t ∙ z));
      }

  module _ (told : none ≡ run_refusal first_edition p (length out) (length work)) where
    none_lent : none ≡ buffers_refusal (length out) (length work)
    none_lent = sym (both_pass _ _ (sym told)).0

    pub work_long : work_needed ≤ length work
    work_long = lent_work (length out) (length work) none_lent

    part_long : length (take work_needed work) ≡ work_needed
    part_long = length-take-le work_needed work work_long

    pub can_accept : CanRunProgram first_edition p out (take work_needed work)
    can_accept = record {
      known = omega arith;
      meets = (exactly first_edition p).0 (both_pass _ _ (sym told)).1;
      room = lent_output (length out) (length work) none_lent;
      long = part_long;
    }

    pub run_accepted : (out' part : List ℕ) → Accepted p fuel out out' r → length part ≡ length (take work_needed work) → Ran p fuel out work r out' (part ++ drop work_needed work)
    unfolding run_answer run_output
    run_accepted out' part a e =
        let n = sym told in
        let l : length part ≡ work_needed = e ∙ part_long in
        record {
          answer = rw (n, run_answer) a.answer;
          output = rw (n, run_output) a.output;
          work_length = omega (arith, length-append part (drop work_needed work), length-drop work_needed work, work_long);
          work_beyond = drop_at part (drop work_needed work) work_needed l;
          work_refused = λ q h. absurd (never (sym h ∙ n));
          whole = λ y. demand_3 first_edition (omega arith) p fuel out (length work) y;
        }

pub ruleset answering = (work_long, can_accept)
