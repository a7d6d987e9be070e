-- Document 02, N1, of the call as its caller sees it: the number 0, what is written, and how long it is.
use Prim.Native.Nat.{ℕ, ◌+◌, ◌*◌, ◌≤◌}
use native.Mathlib.Omega.{arith}
use mathlib.Core.List.{List}
use mathlib.Core.Logic.{◌↔◌}
use mathlib.Core.Option.{none}
use mathlib.Core.Path.{◌≡◌, ap, sym, subst, ◌∙◌}
use lib.ListN.{length}
use Rattle.rules.specs.Editions.{Edition, HasEveryKind}
use Rattle.rules.specs.Terms.{Term, type_of}
use Rattle.rules.specs.Types.{Table}
use Rattle.rules.specs.FieldUses.{omitted}
use Rattle.rules.specs.Format.{record_count, table_of}
use Rattle.rules.specs.Links.{first_term, written}
use Rattle.rules.specs.Check.{check_answer, passing}
use Rattle.rules.specs.Meets.{MeetsLayout}
use Rattle.rules.specs.Run.{output_needed, work_needed, buffers_refusal}
use Rattle.rules.proofs.Meaning.{buffers_passed}
use Rattle.rules.proofs.Laid.{length_laid}
use Rattle.rules.proofs.Written.{layout_table, back}
use Rattle.inference.specs.Inference.{filled, unless_refused}
use Rattle.inference.specs.Infer.{inference, inference_lent, infer_answer, SomeFilling, Answered}
use Rattle.inference.proofs.Outcomes.{Fills, Reaches, fills_unless}
use Rattle.inference.proofs.Fillings.{filling_table}
use Rattle.inference.proofs.Fourteen.{number_zero}
use Rattle.inference.proofs.Calls.{FillsTree, inference_fills, inference_exactly, filling_size, filling_small, filling_answered}

long_lent : (edition : Edition) (program : List ℕ) (out_length work_length : ℕ) → buffers_refusal out_length work_length ≡ none
    → inference_lent edition program out_length work_length ≡ inference edition program
unfolding inference_lent unless_refused
long_lent edition program out_length work_length e = ap (λ o. unless_refused o (inference edition program)) e

-- Success as the caller sees it, whose buffers are long enough: the answer has number 0.
pub infer_exactly : (edition : Edition) (program : List ℕ) (out_length work_length : ℕ) → output_needed ≤ out_length → work_needed ≤ work_length
    → (infer_answer edition program out_length work_length).number ≡ 0 ↔ (MeetsLayout omitted edition program × SomeFilling program)
infer_exactly edition program out_length work_length o w =
    let e = long_lent edition program out_length work_length (buffers_passed out_length work_length o w) in
    let (h, k) = number_zero edition program out_length work_length in
    let (i, j) = inference_exactly edition program in
    (λ z. i (subst (Reaches (λ _ _. Unit {0})) e (h z)), λ f. k (subst (Reaches (λ _ _. Unit {0})) (sym e) (j f)))

-- Of an accepted call.
module _ (edition : Edition) (program : List ℕ) (out_length work_length : ℕ) (A : Table) (t : Term) (accepted : inference_lent edition program out_length work_length ≡ filled A t) where
  accepted_fills : FillsTree edition program A t
  unfolding inference_lent
  accepted_fills =
      subst (Fills (FillsTree edition program)) accepted
      (fills_unless (FillsTree edition program) (buffers_refusal out_length work_length) _ (λ _. inference_fills edition program))

  -- "The output passes", and is read back as what was filled.
  pub output_answered : HasEveryKind edition → Answered edition program A t
  output_answered all = let (m, f) = accepted_fills in filling_answered edition program m all A t f

  pub output_passed : HasEveryKind edition → check_answer edition (written A t) ≡ passing (type_of t) (record_count program)
  output_passed all = let a = output_answered all in a.passed.checked ∙ ap (passing (type_of t)) a.records

  -- As long as its counts say, and not longer than the output buffer must be.
  pub output_length : (length (written A t) ≡ 4 + 6 * length A + 16 * record_count program) × (length (written A t) ≤ output_needed)
  output_length =
      let (m, f) = accepted_fills in
      let good = filling_table (table_of program) (layout_table omitted edition program m) (first_term program) A t f in
      let l = (back A t good f.typed (filling_small edition program m A t f)).length_back in
      let n = length_laid 1 0 t in
      let r = filling_size edition program m A t f in
      (omega arith, omega (arith, f.few, filling_small edition program m A t f))
