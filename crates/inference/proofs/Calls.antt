-- Document 02, N1, of a program's bytes: "Success is due exactly when some filling passes, within 256 entries; the output passes, and clearing its
-- types gives the input's tree back."
use Prim.Native.Nat.{ℕ, zero, suc, ◌≤◌, ◌<◌}
use native.Mathlib.Omega.{arith}
use native.Mathlib.Decide.{dec_lt}
use mathlib.Core.List.{List, [], ◌∷◌, map}
use mathlib.Core.Logic.{◌↔◌}
use mathlib.Core.Path.{◌≡◌, refl, ap, ap₂, sym, subst, ◌∙◌}
use lib.Dec.{eqb}
use lib.ListN.{length, length-map, get_or-map, get_or-eq_default}
use Rattle.rules.specs.Lists.{pick}
use Rattle.rules.specs.Kinds.{number, kind_of}
use Rattle.rules.specs.Editions.{Edition, HasEveryKind}
use Rattle.rules.specs.Terms.{Term, leaf, size}
use Rattle.rules.specs.Types.{Table}
use Rattle.rules.specs.FieldUses.{given, omitted}
use Rattle.rules.specs.Format.{Record, no_record, most_records, record_count, table_of, records_of, record_no}
use Rattle.rules.specs.Links.{named, first_of, next_of, node, tree_of, first_term}
use Rattle.rules.specs.Check.{type_no, layout_refusal}
use Rattle.rules.specs.Meets.{MeetsLayout, Meets}
use Rattle.rules.proofs.Meaning.{layout_exactly, layout_size, some_record}
use Rattle.rules.proofs.Written.{GoodTable, layout_table, term_passed}
use Rattle.inference.specs.Inference.{Begins, cleared, Formed, Inference, inferred, inferred_from}
use Rattle.inference.specs.Infer.{inference, Filling, SomeFilling, cleared_record, Answered}
use Rattle.inference.proofs.Outcomes.{Fills, Reaches, fills_some, reaches_some, fills_unless, reaches_unless}
use Rattle.inference.proofs.Cleared.{size_cleared, cleared_node}
use Rattle.inference.proofs.ByLinks.{placeless, placeless_fills, placeless_reaches, inferred_by_links, tree_formed, tree_cleared}
use Rattle.inference.proofs.Fillings.{filling_table, gives_filling, filling_given}

-- Inference of the root's tree.
abbrev root_inferred : List ℕ → Inference
root_inferred program = inferred_from (length (records_of program)) (table_of program) (records_of program) [] 0 1

-- A program whose layout is good.
module _ (edition : Edition) (program : List ℕ) (m : MeetsLayout omitted edition program) where
  abbrev types : Table
  types = table_of program

  abbrev rs : List Record
  rs = records_of program

  abbrev tree : Term
  tree = first_term program

  good : GoodTable types
  good = layout_table omitted edition program m

  some : 0 < length rs
  some = some_record omitted edition program m

  formed : Formed types tree
  formed = tree_formed rs m.form.chained types (λ n i j. (m.form.fielded n i j).1.1) (length rs) 1 (omega arith) some (omega arith)

  no_types : (n : ℕ) → type_no rs n ≡ 0
  no_types zero = refl
  no_types (suc n) = elim (dec_lt n (length rs)) [
    | yes h ↦ (m.form.unwritten (suc n) (omega arith) (omega arith)).0
    | no h ↦ let le : length rs ≤ n = omega arith in ap (λ r. r.fields.type) (get_or-eq_default rs no_record le)
  ]

  by_links : placeless (root_inferred program) ≡ inferred types [] 0 tree
  by_links = inferred_by_links rs m.form.chained (length rs) 1 types [] 0 (omega arith) some (omega arith)

  tree_filled : Fills (Filling types tree) (root_inferred program)
  tree_filled =
      let h = subst (λ t. Fills (Filling types t) (inferred types [] 0 tree)) (tree_cleared rs no_types (length rs) 1) (gives_filling types good tree formed) in
      placeless_fills (Filling types tree) (root_inferred program) (subst (Fills (Filling types tree)) (sym by_links) h)

  tree_reached : (B : Table) (u : Term) → Filling types tree B u → Reaches (λ _ _. Unit {0}) (root_inferred program)
  tree_reached B u f = placeless_reaches _ (root_inferred program) (subst (Reaches _) (sym by_links) (filling_given types good tree formed B u f))

  pub filling_size : (A : Table) (t : Term) → Filling types tree A t → size t ≡ record_count program
  filling_size A t f = sym (size_cleared t) ∙ ap size f.back ∙ layout_size omitted edition program m

  pub filling_small : (A : Table) (t : Term) → Filling types tree A t → size t ≤ most_records
  filling_small A t f = omega (arith, filling_size A t f, m.counts.1.0)

  pub filling_answered : HasEveryKind edition → (A : Table) (t : Term) → Filling types tree A t → Answered edition program A t
  filling_answered all A t f = record {
    filling = f;
    records = filling_size A t f;
    passed = term_passed A t (filling_table types good tree A t f) f.typed (filling_small A t f) edition all;
  }

-- The program's layout is good, and its tree is filled.
abbrev pub FillsTree : Edition → List ℕ → Table → Term → Type 0
FillsTree edition program A t = MeetsLayout omitted edition program × Filling (table_of program) (first_term program) A t

pub inference_fills : (edition : Edition) (program : List ℕ) → Fills (FillsTree edition program) (inference edition program)
unfolding inference
inference_fills edition program = fills_unless (FillsTree edition program) (layout_refusal omitted edition program) _ (λ e.
    let m = (layout_exactly omitted edition program).0 e in
    fills_some (Filling (table_of program) (first_term program)) (FillsTree edition program) (root_inferred program) (λ A t f. (m, f)) (tree_filled edition program m))

-- "Success is due exactly when some filling passes, within 256 entries."
pub inference_exactly : (edition : Edition) (program : List ℕ)
    → Reaches (λ _ _. Unit {0}) (inference edition program) ↔ (MeetsLayout omitted edition program × SomeFilling program)
unfolding inference
inference_exactly edition program = (
  λ h. let (A, t, (m, f)) = reaches_some (FillsTree edition program) (inference edition program) (inference_fills edition program) h in (m, (A, t, f)),
  λ (m, (B, u, f)). reaches_unless (λ _ _. Unit {0}) (layout_refusal omitted edition program) _ ((layout_exactly omitted edition program).1 m) (tree_reached edition program m B u f),
)

-- What is filled for an accepted program passes and is read back.
pub inference_answered : (edition : Edition) → HasEveryKind edition → (program : List ℕ) → Fills (Answered edition program) (inference edition program)
inference_answered edition all program = fills_some (FillsTree edition program) (Answered edition program) (inference edition program)
    (λ A t (m, f). filling_answered edition program m all A t f) (inference_fills edition program)

-- A program that passes, and that is the given one once its types are cleared, is a filling: "some filling passes" may be read so.
module _ (rs : List Record) where
  record_cleared : (n : ℕ) → record_no (map cleared_record rs) n ≡ cleared_record (record_no rs n)
  record_cleared n = get_or-map cleared_record (no_record ∷ rs) n no_record

  first_cleared : (n : ℕ) → first_of (map cleared_record rs) n ≡ first_of rs n
  first_cleared n = ap₂ (λ R r. named R n r.first) (length-map rs cleared_record) (record_cleared n)

  next_cleared : (n : ℕ) → next_of (map cleared_record rs) n ≡ next_of rs n
  next_cleared n = ap₂ (λ R r. pick (eqb n 1) 0 (named R n r.next)) (length-map rs cleared_record) (record_cleared n)

  tree_of_cleared : (left n : ℕ) → tree_of left (map cleared_record rs) n ≡ cleared (tree_of left rs n)
  unfolding tree_of cleared
  tree_of_cleared zero n = ap (λ r. leaf number r.fields) (record_cleared n)
  tree_of_cleared (suc left) zero = refl
  tree_of_cleared (suc left) (suc m) =
      let n = suc m in
      let r = record_cleared n in
      let rs' = map cleared_record rs in
      let c = first_cleared n in
      let s = ap (next_of rs') c ∙ next_cleared (first_of rs n) in
      let e = ap (next_of rs') s ∙ next_cleared (next_of rs (first_of rs n)) in
      let x = ap (tree_of left rs') c ∙ tree_of_cleared left (first_of rs n) in
      let y = ap (tree_of left rs') s ∙ tree_of_cleared left (next_of rs (first_of rs n)) in
      let z = ap (tree_of left rs') e ∙ tree_of_cleared left (next_of rs (next_of rs (first_of rs n))) in
      (λ i. node (kind_of (r i).kind) (r i).fields (x i) (y i) (z i)) ∙ sym (cleared_node (kind_of (record_no rs n).kind) (record_no rs n).fields _ _ _)

pub program_filling : (edition : Edition) (program typed : List ℕ) → Meets edition typed → Begins (table_of program) (table_of typed)
    → map cleared_record (records_of typed) ≡ records_of program
    → Filling (table_of program) (first_term program) (table_of typed) (first_term typed)
program_filling edition program typed m b e =
    let g = layout_table given edition typed m.layout in
    let R : length (records_of typed) ≡ length (records_of program) = sym (length-map (records_of typed) cleared_record) ∙ ap length e in
    record {
      begins = b;
      few = g.few;
      entries = g.entries;
      typed = m.typed;
      back = sym (tree_of_cleared (records_of typed) (length (records_of typed)) 1) ∙ ap₂ (λ n rs. tree_of n rs 1) R e;
    }
