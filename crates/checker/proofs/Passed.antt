-- What is known of a program whose layout is not refused; and the walk that comes after.
use Prim.Native.Nat.{ℕ}
use native.Mathlib.Omega.{arith}
use mathlib.Core.Bool.{Bool, true, false}
use mathlib.Core.List.{List, []}
use mathlib.Core.Option.{Option, none, some}
use mathlib.Core.Path.{◌≡◌, sym}
use lib.ListN.{length}
use Rattle.rules.specs.Editions.{Edition}
use Rattle.rules.specs.FieldUses.{TypeFields, given, omitted}
use Rattle.rules.specs.Format.{records_of}
use Rattle.rules.specs.Refusals.{Refusal, bad_link, bad_children}
use Rattle.rules.specs.Check.{links_rule, children_rule, walked, form_refusal, layout_refusal, refusal}
use Rattle.rules.specs.Meets.{MeetsLayout}
use Rattle.rules.proofs.Tests.{lowest_holds}
use Rattle.rules.proofs.Meaning.{records_counted, layout_exactly}
use Rattle.kinds.specs.Meant.{type_fields_meant}
use Rattle.records.specs.View.{entries_in, records_in}
use Rattle.parts.specs.declared.Parts.{Parts}
use Rattle.parts.specs.Layout.{ArePartsOf}
use Rattle.refusals.proofs.Reporting.{reports_first, reports_next}
use Rattle.typing.specs.Walking.{MakeTree}
use Rattle.checker.specs.Refused.{SizePasses, refusal_with}
use Rattle.checker.proofs.Parts.{form_told}

module _ (fields : TypeFields) (edition : Edition) (p : List ℕ) (tl : none ≡ layout_refusal fields edition p) where
  layout_passed : MeetsLayout fields edition p
  layout_passed = (layout_exactly fields edition p).0 (sym tl)

  -- Its records make one tree.
  passed_tree : (parts : Parts) → ArePartsOf p parts → MakeTree (records_in parts.records.now)
  passed_tree parts a =
      let m = layout_passed in
      let rs = records_of p in
      rw a.records_are (record {
        linked = lowest_holds (links_rule rs) bad_link 1 (length rs) m.form.linked;
        chained = lowest_holds (children_rule rs) bad_children 1 (length rs) m.form.chained;
        real = omega (arith, records_counted p, m.counts.1.0);
        most = omega (arith, records_counted p, m.counts.1.0);
      })

-- So it is where the refusals of its two parts say nothing.
pub form_tree : (p : List ℕ) → SizePasses p → (parts : Parts) → ArePartsOf p parts → (fields : TypeFields) (edition : Edition)
    → none ≡ form_refusal fields edition (entries_in parts.table.now) (records_in parts.records.now) → MakeTree (records_in parts.records.now)
form_tree p passes parts a fields edition tf = passed_tree fields edition p (form_told p passes parts a fields edition none tf) parts a

-- 3 to 9 and 13, then, where types are given, the walk.
module _ (b : Bool) (edition : Edition) (p : List ℕ) where
  pub layout_refused : (m : Refusal) → some m ≡ layout_refusal (type_fields_meant b) edition p → some m ≡ refusal_with (type_fields_meant b) edition p
  unfolding refusal_with refusal
  layout_refused m tl = go (type_fields_meant b) tl
    where
      go : (fields : TypeFields) → some m ≡ layout_refusal fields edition p → some m ≡ refusal_with fields edition p
      go given t = reports_first m _ _ t
      go omitted t = t

  module _ (tl : none ≡ layout_refusal (type_fields_meant b) edition p) where
    pub layout_told : b ≡ false → none ≡ refusal_with (type_fields_meant b) edition p
    unfolding refusal_with type_fields_meant
    layout_told e = rw e (rw e at tl)

    pub walk_told : b ≡ true → (parts : Parts) → ArePartsOf p parts → (q : Option Refusal)
        → q ≡ walked (length (records_in parts.records.now)) (entries_in parts.table.now) (records_in parts.records.now) [] 0 1 → q ≡ refusal_with (type_fields_meant b) edition p
    unfolding refusal_with refusal type_fields_meant
    walk_told e parts a q tw = rw e (reports_next q _ _ (rw e at tl) (rw (← a.entries_are, ← a.records_are) tw))

-- The refusal of a program whose types are given, and of one whose types are omitted.
module _ (edition : Edition) (p : List ℕ) (q : Option Refusal) where
  pub with_given : q ≡ refusal_with (type_fields_meant true) edition p → q ≡ refusal edition p
  unfolding refusal_with type_fields_meant
  with_given t = t

  pub with_omitted : q ≡ refusal_with (type_fields_meant false) edition p → q ≡ layout_refusal omitted edition p
  unfolding refusal_with type_fields_meant
  with_omitted t = t

pub ruleset walking_on = (layout_refused, layout_told, walk_told)
