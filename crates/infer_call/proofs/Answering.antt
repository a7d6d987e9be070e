-- The infer call: refusals 1 and 2, then those of the layout, then what typing comes to.
use Prim.Native.Nat.{ℕ, ◌≤◌}
use native.Mathlib.Omega.{arith}
use mathlib.Core.List.{List, ◌++◌}
use mathlib.Core.Option.{Option, none, some}
use mathlib.Core.Path.{◌≡◌, refl, sym, ap, ◌∙◌}
use lib.ListN.{length, take, drop, length-append, length-drop, take-append-drop}
use lib.Seq.{length-take-le, drop_at}
use Rattle.rules.specs.Editions.{first_edition}
use Rattle.rules.specs.FieldUses.{omitted}
use Rattle.rules.specs.Refusals.{◌then◌}
use Rattle.rules.specs.Refusals.{Refusal as MeantRefusal}
use Rattle.rules.specs.Check.{layout_refusal}
use Rattle.rules.specs.Run.{work_needed, buffers_refusal}
use Rattle.rules.proofs.Meaning.{layout_exactly}
use Rattle.rules.proofs.Tests.{both_pass}
use Rattle.inference.specs.Inference.{Inference, faulty, unless_refused}
use Rattle.inference.specs.Infer.{answer_of, output_of, inference, inference_lent, infer_answer, infer_output}
use Rattle.inference.proofs.Returned.{output_answered}
use Rattle.refusals.specs.declared.reasons.Refusal.{Refusal}
use Rattle.refusals.specs.Reports.{refusal_meant}
use Rattle.lending.proofs.Lengths.{lent_output, lent_work}
use Rattle.infer_call.specs.declared.InferAnswer.{InferAnswer}
use Rattle.infer_call.specs.Answers.{infer_meant, refused_by, CanType, Types, Inferred}

-- One check, then the other: a refusal is the inference's fault, and where neither refuses the inference goes on.
both_refused : (a b : Option MeantRefusal) (o : Inference) (m : MeantRefusal) → some m ≡ (a then b) → unless_refused a (unless_refused b o) ≡ faulty m
unfolding ◌then◌ unless_refused
both_refused none none o m e = absurd (cc)
both_refused none (some q) o m e = cc
both_refused (some q) b o m e = cc

module _ (p out work : List ℕ) where
  -- A refused call has the refusal's answer, and changes nothing.
  pub call_refused : (r : InferAnswer) (q : Refusal) → some (refusal_meant q) ≡ (buffers_refusal (length out) (length work) then layout_refusal omitted first_edition p)
      → infer_meant r ≡ refused_by q → Inferred p out work r out work
  unfolding inference inference_lent infer_answer infer_output
  call_refused r q t a =
      let e : inference_lent first_edition p (length out) (length work) ≡ faulty (refusal_meant q) = both_refused _ _ _ _ t in
      record {
        answer = a ∙ ap answer_of (sym e);
        output = ap (λ o. output_of o out) (sym e);
        work_length = refl;
        work_beyond = refl;
        work_refused = λ q h. refl;
        passes = λ A t e. output_answered first_edition p (length out) (length work) A t e (omega arith);
      }

  module _ (passed : none ≡ (buffers_refusal (length out) (length work) then layout_refusal omitted first_edition p)) where
    lent : none ≡ buffers_refusal (length out) (length work)
    lent = sym (both_pass _ _ (sym passed)).0

    -- With buffers that are long enough the program alone decides.
    by_program : inference_lent first_edition p (length out) (length work) ≡ inference first_edition p
    unfolding inference_lent unless_refused
    by_program = ap (λ o. unless_refused o (inference first_edition p)) (sym lent)

    pub long_enough : work_needed ≤ length work
    long_enough = lent_work (length out) (length work) lent

    pub part_long : work_needed ≡ length (take work_needed work)
    part_long = sym (length-take-le work_needed work long_enough)

    pub can_type : CanType p out (take work_needed work)
    can_type = record {
      layout = (layout_exactly omitted first_edition p).0 (both_pass _ _ (sym passed)).1;
      room = lent_output (length out) (length work) lent;
      long = sym part_long;
    }

    pub infer_typed : (r : InferAnswer) (out' part : List ℕ) → Types p out out' (take work_needed work) part r → length part ≡ length (take work_needed work)
        → Inferred p out work r out' (part ++ drop work_needed work)
    unfolding infer_answer infer_output
    infer_typed r out' part a e =
        let l : length part ≡ work_needed = e ∙ sym part_long in
        record {
          answer = a.answer ∙ ap answer_of (sym by_program);
          output = a.output ∙ ap (λ o. output_of o out) (sym by_program);
          work_length = omega (arith, length-append part (drop work_needed work), length-drop work_needed work, long_enough);
          work_beyond = drop_at part (drop work_needed work) work_needed l;
          work_refused = λ q h. ap (λ w. w ++ drop work_needed work) (a.faulted q (sym by_program ∙ h)) ∙ take-append-drop work_needed work;
          passes = λ A u h. output_answered first_edition p (length out) (length work) A u h (omega arith);
        }
