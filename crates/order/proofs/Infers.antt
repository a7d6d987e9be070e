-- Accepted calls of infer, as their callers see them: what is filled is written in order of use, a run of what was written gives the same bytes, and inputs
-- that differ just in table order or unused entries are answered and written alike.
use Prim.Native.Nat.{ℕ, ◌+◌, ◌*◌, ◌≤◌}
use native.Mathlib.Omega.{arith}
use mathlib.Core.List.{List, []}
use mathlib.Core.Option.{none}
use mathlib.Core.Path.{◌≡◌, ap, sym, subst, ◌∙◌}
use lib.ListN.{length}
use Rattle.rules.specs.Editions.{Edition, HasEveryKind}
use Rattle.rules.specs.Terms.{Term, size, type_of}
use Rattle.rules.specs.Types.{Table}
use Rattle.rules.specs.FieldUses.{omitted}
use Rattle.rules.specs.Format.{most_records, record_count, table_of, records_of}
use Rattle.rules.specs.Links.{first_term}
use Rattle.rules.specs.Check.{check_answer, passing}
use Rattle.rules.specs.Meets.{MeetsLayout}
use Rattle.rules.specs.Run.{written_over, output_needed, work_needed, buffers_refusal, run_refusal}
use Rattle.rules.proofs.Meaning.{some_record}
use Rattle.rules.proofs.Written.{GoodTable, layout_table}
use Rattle.inference.specs.Inference.{Formed, filled}
use Rattle.inference.specs.Infer.{inference_lent, Filling}
use Rattle.inference.proofs.Outcomes.{Fills, fills_unless}
use Rattle.inference.proofs.ByLinks.{tree_formed}
use Rattle.inference.proofs.Fillings.{filling_table}
use Rattle.inference.proofs.Calls.{FillsTree, inference_fills, filling_size, filling_small}
use Rattle.order.specs.Order.{written_table, written_term}
use Rattle.order.specs.Alike.{Alike, SameFields, SameTerm, SameProgram}
use Rattle.order.specs.RunInOrder.{output_in_order, run_output_in_order}
use Rattle.order.specs.InferInOrder.{answer_in_order, bytes_in_order, infer_answer_in_order, infer_output_in_order, AnsweredInOrder}
use Rattle.order.proofs.Alike.{size_alike}
use Rattle.order.proofs.SameFields.{same_turned, same_joined, same_omitted}
use Rattle.order.proofs.Forced.{types_forced}
use Rattle.order.proofs.Same.{same_written, same_output}
use Rattle.order.proofs.Output.{output_same, written_in_order, output_length as ordered_length, output_short_lem}
use Rattle.order.proofs.Programs.{same_first}
use Rattle.order.proofs.Runs.{written_accepted, written_again}
use Rattle.order.proofs.SameTypes.{same_cleared}
use Rattle.order.proofs.Fillings.{filling_same}

-- A program whose layout is good.
module _ (edition : Edition) (program : List ℕ) (m : MeetsLayout omitted edition program) where
  abbrev types : Table
  types = table_of program

  abbrev tree : Term
  tree = first_term program

  good : GoodTable types
  good = layout_table omitted edition program m

  formed : Formed types tree
  formed = tree_formed (records_of program) m.form.chained types (λ n i j. (m.form.fielded n i j).1.1) (length (records_of program)) 1 (omega arith) (some_record omitted edition program m) (omega arith)

  pub filling_alike : (A : Table) (t : Term) → Filling types tree A t → Alike (SameFields omitted types A) tree t
  filling_alike = filling_same types good tree formed

  pub filling_answered : HasEveryKind edition → (A : Table) (t : Term) → Filling types tree A t → AnsweredInOrder edition program A t
  filling_answered all A t f = record {
    filling = f;
    records = filling_size edition program m A t f;
    in_order = written_in_order A (filling_table types good tree A t f) t f.typed (filling_small edition program m A t f) edition all;
    back = same_cleared types (written_table A t) (same_joined types A (written_table A t) omitted (filling_alike A t f)
        (same_omitted A (written_table A t) (output_same A (filling_table types good tree A t f) t f.typed)));
  }

-- Of an accepted call.
module _ (edition : Edition) (program : List ℕ) (out_length work_length : ℕ) (A : Table) (t : Term) (accepted : inference_lent edition program out_length work_length ≡ filled A t) where
  accepted_fills : FillsTree edition program A t
  unfolding inference_lent
  accepted_fills =
      subst (Fills (FillsTree edition program)) accepted
      (fills_unless (FillsTree edition program) (buffers_refusal out_length work_length) _ (λ _. inference_fills edition program))

  -- "The output passes", is what was filled but for the numbers of types, and "clearing its types gives the input's tree back".
  pub output_answered : HasEveryKind edition → AnsweredInOrder edition program A t
  output_answered all = let (m, f) = accepted_fills in filling_answered edition program m all A t f

  pub output_passed : HasEveryKind edition → check_answer edition (output_in_order A t) ≡ passing (type_of (written_term A t)) (record_count program)
  output_passed all = let a = output_answered all in a.in_order.passed.checked ∙ ap (passing (type_of (written_term A t))) (sym (size_alike a.in_order.same) ∙ a.records)

  table : GoodTable A
  table = let (m, f) = accepted_fills in filling_table (table_of program) (layout_table omitted edition program m) (first_term program) A t f

  small : size t ≤ most_records
  small = let (m, f) = accepted_fills in filling_small edition program m A t f

  -- As long as its counts say, and not longer than the output buffer must be.
  pub output_length : (length (output_in_order A t) ≡ 4 + 6 * length (written_table A t) + 16 * record_count program) × (length (output_in_order A t) ≤ output_needed)
  output_length =
      let (m, f) = accepted_fills in
      let r = filling_size edition program m A t f in
      (ordered_length A table t f.typed small ∙ ap (λ n. 4 + 6 * length (written_table A t) + 16 * n) r, omega (arith, output_short_lem A table t f.typed small, f.few, small))

  -- "A run of fuel 0 on a written file gives the same bytes."
  pub infer_again : HasEveryKind edition → (out : List ℕ) (work_length' : ℕ) → output_needed ≤ length out → work_needed ≤ work_length'
      → (run_refusal edition (output_in_order A t) (length out) work_length' ≡ none) × (run_output_in_order edition (output_in_order A t) 0 out work_length' ≡ written_over out (output_in_order A t))
  infer_again all out work_length' o w =
      let (m, f) = accepted_fills in
      (written_accepted edition all A table t f.typed small out work_length' o w, written_again edition all A table t f.typed small out work_length' o w)

-- "Two accepted inputs .. that differ just in table order or unused entries write alike": and all fields of their answers are alike.
module _ (edition : Edition) (p q : List ℕ) (same : SameProgram omitted p q) (out : List ℕ) (work_length : ℕ) (A B : Table) (t u : Term)
    (accepted_p : inference_lent edition p (length out) work_length ≡ filled A t) (accepted_q : inference_lent edition q (length out) work_length ≡ filled B u) where
  filled_alike : SameTerm A B t u
  filled_alike =
      let (m, f) = accepted_fills edition p (length out) work_length A t accepted_p in
      let (n, g) = accepted_fills edition q (length out) work_length B u accepted_q in
      let P = table_of p in
      let Q = table_of q in
      let from-p = filling_alike edition p m A t f in
      let to-q = filling_alike edition q n B u g in
      types_forced A B f.entries g.entries
      (same_joined A P B omitted (same_turned omitted P A from-p) (same_joined P Q B omitted (same_first omitted edition p q m same) to-q)) [] [] 0 tt f.typed g.typed

  bytes_alike : (output_in_order A t ≡ output_in_order B u) × (written_term A t ≡ written_term B u)
  bytes_alike =
      let (m, f) = accepted_fills edition p (length out) work_length A t accepted_p in
      let (n, g) = accepted_fills edition q (length out) work_length B u accepted_q in
      (same_output A B f.entries g.entries filled_alike, same_written A B f.entries g.entries filled_alike)

  pub inputs_infer_alike : infer_answer_in_order edition p (length out) work_length ≡ infer_answer_in_order edition q (length out) work_length
  unfolding infer_answer_in_order
  inputs_infer_alike = ap answer_in_order accepted_p
      ∙ ((λ i. record { number = 0; place = 0; root_type = type_of (bytes_alike.1 i); written = length (bytes_alike.0 i) }) ∙ ap answer_in_order (sym accepted_q))

  pub inputs_write_alike : infer_output_in_order edition p out work_length ≡ infer_output_in_order edition q out work_length
  unfolding infer_output_in_order
  inputs_write_alike = ap (λ o. bytes_in_order o out) accepted_p ∙ (ap (written_over out) bytes_alike.0 ∙ ap (λ o. bytes_in_order o out) (sym accepted_q))
