-- What filling comes to: the fault of the program's inference, or what is written next.
use Prim.Native.Nat.{ℕ}
use native.Mathlib.Omega.{arith}
use mathlib.Core.List.{List, [], ◌++◌}
use mathlib.Core.Option.{Option, some}
use mathlib.Core.Path.{◌≡◌, refl, ap, sym, ◌∙◌}
use lib.ListN.{length, take, drop}
use lib.Seq.{length-take-le, take_at}
use Rattle.std.specs.Prelude.{Result, Ok, Err}
use Rattle.std.specs.Borrow.{MutBor}
use Rattle.rules.specs.Editions.{first_edition}
use Rattle.rules.specs.FieldUses.{omitted}
use Rattle.rules.specs.Meets.{MeetsLayout}
use Rattle.rules.specs.Refusals.{Refusal as MeantRefusal}
use Rattle.rules.proofs.Meaning.{layout_exactly}
use Rattle.inference.specs.Inference.{Inference, faulty, filled, unless_refused, inferred_from}
use Rattle.inference.specs.Infer.{answer_of, output_of, inference}
use Rattle.records.specs.Overwritten.{overwritten}
use Rattle.records.specs.View.{entries_in, records_in}
use Rattle.refusals.specs.declared.reasons.Refusal.{Refusal}
use Rattle.refusals.specs.Reports.{refusal_meant}
use Rattle.parts.specs.declared.Parts.{Parts}
use Rattle.parts.specs.Layout.{ArePartsOf}
use Rattle.tables.specs.declared.Table.{Table as TypeTable}
use Rattle.tables.specs.Having.{buffer_of, entries_of, IsOf, HasBytes, AreEntries}
use Rattle.filling.specs.Filling.{fault_of, FillsAll}
use Rattle.infer_call.specs.declared.InferAnswer.{InferAnswer}
use Rattle.infer_call.specs.Answers.{infer_meant, refused_by, CanTypeWith, CanWriteFilled, Types}
use Rattle.infer_call.proofs.Parts.{given_long, table_front, table_stands}

-- An inference with a fault is that fault.
fault_is : (o : Inference) (r : MeantRefusal) → fault_of o ≡ some r → o ≡ faulty r
unfolding fault_of
fault_is (faulty q) r e = ap faulty (some_is e)
  where
    some_is : {q r : MeantRefusal} → ◌≡◌ {A = Option MeantRefusal} (some q) (some r) → q ≡ r
    some_is e = cc
fault_is (filled A t) r e = let z : ◌≡◌ {A = ℕ} 0 1 = cc in absurd (omega arith)

module _ (p out work bytes given : List ℕ) (h : CanTypeWith p out work bytes given) (parts : Parts) (a : ArePartsOf p parts)
    (lent : MutBor (List ℕ)) (written : lent.now ≡ overwritten bytes 0 parts.table.now) (types : ℕ) (told : types ≡ length (entries_in parts.table.now))
    (t : TypeTable) (made : IsOf lent types t) (t' : TypeTable) (gs : List ℕ) where
  abbrev Ends : Result ℕ Refusal → Type 0
  Ends = FillsAll (records_in parts.records.now) t t' gs

  m : MeetsLayout omitted first_edition p
  m = h.can.layout

  -- The walk from the root is the program's inference.
  inferred_is : inferred_from (length (records_in parts.records.now)) (entries_of t) (records_in parts.records.now) [] 0 1 ≡ inference first_edition p
  unfolding inference unless_refused
  inferred_is = rw ((layout_exactly omitted first_edition p).1 m) (rw (a.records_are, table_front p out work bytes given h parts a lent written types told t made))

  -- A fault is the answer, and nothing is changed.
  pub type_faulty : (q : Refusal) → Ends (Err q) → (r : InferAnswer) → infer_meant r ≡ refused_by q → Types p out out work work r
  type_faulty q fills r e =
      let o : inference first_edition p ≡ faulty (refusal_meant q) =
      fault_is (inference first_edition p) _ (ap fault_of (sym inferred_is) ∙ sym fills.reports) in
      record { answer = e ∙ ap answer_of (sym o); output = ap (λ i. output_of i out) (sym o); faulted = λ q d. refl }

  -- Else the table and the types can be written.
  module _ (root : ℕ) (fills : Ends (Ok root)) where
    pub has_bytes : HasBytes t'
    has_bytes = table_stands p out work bytes given h parts a lent written types told t made t' fills.done.few fills.room

    pub can_write : (s : List ℕ) → AreEntries t' s → (count : ℕ) → count ≡ length (records_in parts.records.now) → length gs ≡ length (take count given)
        → CanWriteFilled p out work s (take count (gs ++ drop count given)) root
    can_write s entries count e kept =
        let done = fills.done in
        let long : length (entries_in s) ≡ t'.types = ap length entries.are ∙ length-take-le t'.types (buffer_of t') has_bytes.room in
        record {
          can = h.can;
          term = done.term;
          is = sym inferred_is ∙ done.is ∙ ap (λ A. filled A done.term) (sym entries.are);
          few = omega (arith, done.few, long);
          entries = omega (arith, entries.long, long);
          type = done.type;
          types = take_at gs (drop count given) count (kept ∙ sym (given_long p out work bytes given h parts a count e)) ∙ done.types;
        }
