-- A program is passed exactly when it meets the rules; then its table has no twins, and its records make one typed tree.
use Prim.Native.Nat.{ℕ, suc, ◌+◌, ◌-◌, ◌≤◌, ◌<◌}
use native.Mathlib.Omega.{arith}
use native.Mathlib.Decide.{dec_lt}
use mathlib.Core.List.{List, []}
use mathlib.Core.Logic.{◌↔◌}
use mathlib.Core.Option.{Option, none, some}
use mathlib.Core.Path.{◌≡◌, refl, sym, ◌∙◌, ap, ap₂}
use lib.ListN.{length, get_or}
use Rattle.rules.specs.Lists.{pick}
use Rattle.rules.specs.Editions.{Edition}
use Rattle.rules.specs.Terms.{type_of, size}
use Rattle.rules.specs.Types.{Table, entry, no_entry, NoTwins}
use Rattle.rules.specs.Conditions.{met, Holds, same, same_entry}
use Rattle.rules.specs.Format.{Record, type_count, record_count, table_of, records_of}
use Rattle.rules.specs.Links.{first_term, NoBadLink}
use Rattle.rules.specs.Refusals.{Refusal, OneOfTwelve, output_short, work_short, program_short, bad_counts, bad_length, bad_entry, bad_field, bad_link, bad_children, type_written, lowest}
use Rattle.rules.specs.FieldUses.{TypeFields, given}
use Rattle.rules.specs.Check.{entry_rule, form_refusal, size_refusal, layout_refusal, refusal, check_answer, passing, type_no, links_rule}
use Rattle.rules.specs.Run.{output_needed, work_needed, buffers_refusal}
use Rattle.rules.specs.Meets.{MeetsForm, MeetsLayout, Meets}
use Rattle.rules.proofs.General.{is_true, length_listed, Gives}
use Rattle.rules.proofs.Twelve.{refusal_numbered}
use Rattle.rules.proofs.Tables.{Distinct, no_twins}
use Rattle.rules.proofs.Tests.{passes, both_pass, pass_both, holds_unless, unless_holds, holds_lowest, lowest_holds}
use Rattle.rules.proofs.Sums.{total_zero_at}
use Rattle.rules.proofs.Tree.{walk_typed, typed_walk, whole_size, tree_type}

-- Records that 8 passes have no bad link.
pub no_bad_link : (rs : List Record) → lowest (links_rule rs) bad_link 1 (length rs) ≡ none → NoBadLink rs
no_bad_link rs h =
    let l = holds_lowest (links_rule rs) bad_link 1 (length rs) h in
    record { first = λ n p q. (l n p (omega arith)).0; next = λ n p q. (l n p (omega arith)).1.0 }

-- 6 to 9, and 13 where types are omitted, pass exactly what meets their rules.
module _ (fields : TypeFields) (edition : Edition) (types : Table) (rs : List Record) where
  form_met : form_refusal fields edition types rs ≡ none → MeetsForm fields edition types rs
  unfolding form_refusal
  form_met h =
      let (h6, h₁) = both_pass _ _ h in
      let (h7, h₂) = both_pass _ _ h₁ in
      let (h13, h₃) = both_pass _ _ h₂ in
      let (h8, h9) = both_pass _ _ h₃ in
      record {
        entries = holds_lowest _ bad_entry 1 (length types) h6;
        fielded = holds_lowest _ bad_field 1 (length rs) h7;
        unwritten = holds_lowest _ type_written 1 (length rs) h13;
        linked = holds_lowest _ bad_link 1 (length rs) h8;
        chained = holds_lowest _ bad_children 1 (length rs) h9;
      }

  met_form : MeetsForm fields edition types rs → form_refusal fields edition types rs ≡ none
  unfolding form_refusal
  met_form m =
      pass_both (lowest_holds _ bad_entry 1 (length types) m.entries)
      (pass_both (lowest_holds _ bad_field 1 (length rs) m.fielded)
      (pass_both (lowest_holds _ type_written 1 (length rs) m.unwritten)
      (pass_both (lowest_holds _ bad_link 1 (length rs) m.linked) (lowest_holds _ bad_children 1 (length rs) m.chained))))

pub types_counted : (program : List ℕ) → length (table_of program) ≡ type_count program
unfolding table_of
types_counted program = length_listed _ 0 (type_count program)

pub records_counted : (program : List ℕ) → length (records_of program) ≡ record_count program
unfolding records_of
records_counted program = length_listed _ 0 (record_count program)

-- A layout is passed exactly when its rules are met.
pub layout_exactly : (fields : TypeFields) (edition : Edition) (program : List ℕ) → layout_refusal fields edition program ≡ none ↔ MeetsLayout fields edition program
unfolding size_refusal layout_refusal
layout_exactly fields edition program = (
  λ h.
      let (h₁, h₂) = both_pass _ _ h in
      let (h3, h₃) = both_pass _ _ h₁ in
      let (h4, h5) = both_pass _ _ h₃ in
      record { counts = holds_unless _ bad_counts 0 h4; exact = (holds_unless _ bad_length 0 h5).0; form = form_met fields edition (table_of program) (records_of program) h₂ },
  λ m.
      let c = m.counts in
      let e = m.exact in
      pass_both
      (pass_both (unless_holds _ program_short 0 (omega (arith, c.0), tt)) (pass_both (unless_holds _ bad_counts 0 c) (unless_holds _ bad_length 0 (e, tt))))
      (met_form fields edition (table_of program) (records_of program) m.form),
)

-- Buffers that are long enough are not refused.
pub buffers_passed : (o w : ℕ) → output_needed ≤ o → work_needed ≤ w → buffers_refusal o w ≡ none
buffers_passed o w room long = pass_both (unless_holds _ output_short 0 (omega arith, tt)) (unless_holds _ work_short 0 (omega arith, tt))

-- There is a record, the root.
pub some_record : (fields : TypeFields) (edition : Edition) (program : List ℕ) → MeetsLayout fields edition program → 0 < length (records_of program)
some_record fields edition program m = omega (arith, records_counted program, m.counts.1.0)

-- Passed exactly when the rules are met.
pub exactly : (edition : Edition) (program : List ℕ) → refusal edition program ≡ none ↔ Meets edition program
unfolding refusal
exactly edition program =
    let types = table_of program in
    let rs = records_of program in (
      λ h.
          let (h₁, walk) = both_pass _ _ h in
          let m = (layout_exactly given edition program).0 h₁ in
          record { layout = m; typed = walk_typed rs types edition m.form.fielded m.form.chained (length rs) 1 [] 0 (omega arith) (some_record given edition program m) (omega arith) walk },
      λ m.
          let l = m.layout in
          pass_both ((layout_exactly given edition program).1 l) (typed_walk rs types l.form.chained (length rs) 1 [] 0 (some_record given edition program l) (λ _. m.typed)),
    )

-- Equal types have equal numbers.
module _ (types : Table) (good : (n : ℕ) → 1 ≤ n → n < 1 + length types → Holds (entry_rule types n)) where
  apart : (m n : ℕ) → m < n → n < length types → get_or types m no_entry ≡ get_or types n no_entry → ⊥
  apart m n h k e =
      let twin = same (entry types (suc m)) (entry types (suc n)) in
      let z : pick {A = ℕ} (met twin) 1 0 ≡ 0 = total_zero_at (λ m. pick (same_entry (entry types m) (entry types (suc n))) 1 0) 1 (suc n - 1) (good (suc n) (omega arith) (omega arith)).0 (suc m) (omega arith) (omega arith) in
      omega (arith, rw (is_true (met twin) (passes twin e)) at z)

  distinct : Distinct types
  distinct m n h k e = elim (dec_lt m n) [
    | yes i ↦ absurd (apart m n i k e)
    | no i ↦ elim (dec_lt n m) [ yes j ↦ absurd (apart n m j h (sym e)) | no j ↦ omega arith ]
  ]

  pub unlike : NoTwins types
  unlike = no_twins types distinct

-- The tree of a program of good layout has all its records.
pub layout_size : (fields : TypeFields) (edition : Edition) (program : List ℕ) → MeetsLayout fields edition program → size (first_term program) ≡ record_count program
layout_size fields edition program m = whole_size (records_of program) m.form.chained m.form.linked (some_record fields edition program m) ∙ records_counted program

pub root_size : (edition : Edition) (program : List ℕ) → Meets edition program → size (first_term program) ≡ record_count program
root_size edition program m = layout_size given edition program m.layout

module _ (edition : Edition) (program : List ℕ) where
  pub answered : refusal edition program ≡ none → check_answer edition program ≡ passing (type_no (records_of program) 1) (record_count program)
  unfolding check_answer
  answered h = rw (h, check_answer)

  -- What check returns for a program that meets the rules.
  pub check_answers : Meets edition program → check_answer edition program ≡ passing (type_of (first_term program)) (size (first_term program))
  check_answers m = answered ((exactly edition program).1 m)
      ∙ ap₂ passing (sym (tree_type (records_of program) (length (records_of program)) 1)) (sym (root_size edition program m))

  -- No refusal has number 0.
  unrefused : (check_answer edition program).number ≡ 0 → refusal edition program ≡ none
  unfolding check_answer
  unrefused z = go (refusal edition program) refl (refusal_numbered edition program)
    where
      go : (o : Option Refusal) → refusal edition program ≡ o → Gives OneOfTwelve o → o ≡ none
      go none e h = refl
      go (some r) e h = absurd (omega (arith, rw (e, check_answer) at z))

  -- Demand 2: check's answer has number 0 exactly when the program meets the rules.
  pub passed_exactly : (check_answer edition program).number ≡ 0 ↔ Meets edition program
  passed_exactly = (λ z. (exactly edition program).0 (unrefused z), λ m. ap (λ a. a.number) (check_answers m))
