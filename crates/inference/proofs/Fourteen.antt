-- A fault is one of the call's fourteen, so that number 0 says that there is none.
use Prim.Native.Nat.{ℕ, zero, suc}
use native.Mathlib.Omega.{arith}
use mathlib.Core.List.{List, []}
use mathlib.Core.Option.{Option, none, some}
use mathlib.Core.Logic.{◌↔◌}
use mathlib.Core.Path.{◌≡◌, refl}
use lib.ListN.{length}
use Rattle.rules.specs.Kinds.{Kind}
use Rattle.rules.specs.Editions.{Edition}
use Rattle.rules.specs.Terms.{Fields, Term}
use Rattle.rules.specs.Types.{Table}
use Rattle.rules.specs.FieldUses.{omitted}
use Rattle.rules.specs.Typing.{Env}
use Rattle.rules.specs.Format.{Record, records_of, table_of}
use Rattle.rules.specs.Refusals.{Refusal, output_short, work_short, type_written, table_full}
use Rattle.rules.specs.Check.{layout_refusal}
use Rattle.rules.specs.Run.{buffers_refusal}
use Rattle.rules.proofs.General.{Gives}
use Rattle.rules.proofs.Twelve.{either, by, lowest_by, judged_by, layout_by}
use Rattle.inference.specs.Inference.{Inference, faulty, filled, unless_refused, ◌and_then◌, assigned, inferred_from}
use Rattle.inference.specs.Infer.{OneOfFourteen, inference, inference_lent, answer_of, infer_answer}
use Rattle.inference.proofs.Outcomes.{Reaches, Faults}

abbrev Fourteen : Inference → Type 0
Fourteen = Faults OneOfFourteen

then_by : (o : Inference) (g : Table → Term → Inference) → Fourteen o → ((A : Table) (t : Term) → Fourteen (g A t)) → Fourteen (o and_then g)
unfolding ◌and_then◌
then_by (faulty r) g h k = h
then_by (filled A t) g h k = k A t

unless_by : (o : Option Refusal) (x : Inference) → Gives OneOfFourteen o → Fourteen x → Fourteen (unless_refused o x)
unfolding unless_refused
unless_by none x h k = k
unless_by (some r) x h k = h

assigned_by : (A : Table) (Γ : Env) (l : ℕ) (k : Kind) (f : Fields) (n : ℕ) (c s e : Term) → Fourteen (assigned A Γ l k f n c s e)
unfolding assigned
assigned_by A Γ l k f n c s e = unless_by _ (filled _ _)
    (either table_full (omega arith) _ _ (judged_by table_full (omega arith) _ _ _ _ _ _ _ _ _) (by table_full (omega arith) _ table_full n (omega arith) (omega arith))) tt

inferred_by : (left : ℕ) (A : Table) (rs : List Record) (Γ : Env) (l n : ℕ) → Fourteen (inferred_from left A rs Γ l n)
unfolding inferred_from
inferred_by zero A rs Γ l n = tt
inferred_by (suc left) A rs Γ l zero = tt
inferred_by (suc left) A rs Γ l (suc m) =
    then_by _ _ (inferred_by left A rs _ _ _) (λ B c.
    then_by _ _ (inferred_by left B rs _ _ _) (λ C s.
    then_by _ _ (inferred_by left C rs _ _ _) (λ D e.
    assigned_by D Γ l _ _ (suc m) c s e)))

pub one_of_fourteen : (edition : Edition) (program : List ℕ) (out_length work_length : ℕ) → Faults OneOfFourteen (inference_lent edition program out_length work_length)
unfolding inference inference_lent
one_of_fourteen edition program out_length work_length =
    let most = table_full in
    let R = length (records_of program) in
    unless_by (buffers_refusal out_length work_length) (inference edition program)
    (either most (omega arith) _ _ (by most (omega arith) _ output_short 0 (omega arith) (omega arith)) (by most (omega arith) _ work_short 0 (omega arith) (omega arith)))
    (unless_by (layout_refusal omitted edition program) (inferred_from R (table_of program) (records_of program) [] 0 1)
    (layout_by most (omega arith) omitted edition program (lowest_by most (omega arith) _ type_written 1 R (omega arith) (omega arith)))
    (inferred_by R (table_of program) (records_of program) [] 0 1))

-- So no fault has number 0: the answer's number is 0 exactly where something is filled.
pub number_zero : (edition : Edition) (program : List ℕ) (out_length work_length : ℕ)
    → (infer_answer edition program out_length work_length).number ≡ 0 ↔ Reaches (λ _ _. Unit {0}) (inference_lent edition program out_length work_length)
unfolding infer_answer
number_zero edition program out_length work_length = go (inference_lent edition program out_length work_length) (one_of_fourteen edition program out_length work_length)
  where
    go : (o : Inference) → Fourteen o → (answer_of o).number ≡ 0 ↔ Reaches (λ _ _. Unit {0}) o
    go (faulty r) h = (λ e. omega arith, λ k. absurd k)
    go (filled A t) h = (λ e. tt, λ k. refl)
