-- Check's answer: `checking` for search. A refused program's is its refusal, a passed one's the root's type and the count of records.
use Prim.Native.Nat.{ℕ, ◌<◌}
use native.Mathlib.Omega.{arith}
use mathlib.Core.Bool.{true}
use mathlib.Core.List.{List}
use mathlib.Core.Option.{Option, none, some}
use mathlib.Core.Path.{◌≡◌, sym, ap, ap₂, subst, ◌∙◌}
use lib.ListN.{length, get_or}
use Rattle.kinds.specs.declared.editions.Edition.{Edition}
use Rattle.rules.specs.Editions.{first_edition}
use Rattle.kinds.specs.Meant.{edition_meant, type_fields_meant}
use Rattle.rules.specs.Format.{no_record, record_count, records_of}
use Rattle.rules.specs.Refusals.{Refusal}
use Rattle.rules.specs.Check.{type_no, passing, failing, size_refusal, refusal, check_answer}
use Rattle.rules.specs.Meets.{Meets}
use Rattle.rules.proofs.Meaning.{exactly, answered}
use Rattle.records.specs.View.{records_in}
use Rattle.records.specs.Meant.{record_meant}
use Rattle.records.specs.declared.Record.{Record}
use Rattle.parts.specs.declared.Parts.{Parts}
use Rattle.parts.specs.Layout.{ArePartsOf}
use Rattle.checker.specs.Refused.{refusal_with}
use Rattle.checker.proofs.Parts.{size_passes, size_refused_given}
use Rattle.checker.proofs.Passed.{with_given}

-- A refusal is the answer.
refused_answer : (p : List ℕ) (m : Refusal) → some m ≡ refusal first_edition p → failing m.number m.place ≡ check_answer first_edition p
unfolding check_answer
refused_answer p m told = go (refusal first_edition p) told
  where
    go : (o : Option Refusal) → some m ≡ o → failing m.number m.place
        ≡ elim o [ none ↦ passing (type_no (records_of p) 1) (record_count p) | some r ↦ failing r.number r.place ]
    go none t = cc
    go (some r) t = let q : m ≡ r = cc in ap (λ x. failing x.number x.place) q

-- The refusal of the length and the counts comes first.
pub check_size_refused : (p : List ℕ) (n : ℕ) → some (record { number = n; place = 0 }) ≡ size_refusal p → failing n 0 ≡ check_answer first_edition p
check_size_refused p n told = refused_answer p _ (size_refused_given p first_edition _ told)

-- Then come those of its table and records.
module _ (p : List ℕ) (e : Edition) (first : edition_meant e ≡ first_edition) where
  pub check_refused : (m : Refusal) → some m ≡ refusal_with (type_fields_meant true) (edition_meant e) p → failing m.number m.place ≡ check_answer first_edition p
  check_refused m told = refused_answer p m (subst (λ x. some m ≡ refusal x p) first (with_given (edition_meant e) p _ told))

  pub check_meets : none ≡ refusal_with (type_fields_meant true) (edition_meant e) p → Meets first_edition p
  check_meets told = (exactly first_edition p).0 (sym (subst (λ x. none ≡ refusal x p) first (with_given (edition_meant e) p _ told)))

pub ruleset checking_program = (size_passes, check_size_refused, check_refused, check_meets)

module _ (p : List ℕ) (meets : Meets first_edition p) (parts : Parts) (a : ArePartsOf p parts) where
  pub passing_root : 0 < length (records_in parts.records.now)
  passing_root = omega (arith, a.records_counted, meets.layout.counts.1.0)

  pub root_told : (r : Record) → record_meant r ≡ get_or (records_in parts.records.now) 0 no_record → r.ty ≡ type_no (records_of p) 1
  root_told r e = ap (λ x. x.fields.type) e ∙ ap (λ rs. (get_or rs 0 no_record).fields.type) a.records_are

pub check_passed : (p : List ℕ) → Meets first_edition p → (root R : ℕ) → root ≡ type_no (records_of p) 1 → R ≡ record_count p → passing root R ≡ check_answer first_edition p
check_passed p meets root R e eR = ap₂ passing e eR ∙ sym (answered first_edition p ((exactly first_edition p).1 meets))

pub ruleset checking = (passing_root, root_told, check_passed)
