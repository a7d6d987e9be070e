-- 3, 4 and 5, where they refuse and where they pass: then the program's table and its records are two parts of its bytes. `parting` for search.
use Prim.Native.Nat.{ℕ, ◌+◌, ◌*◌}
use native.Mathlib.Omega.{arith}
use mathlib.Core.List.{List}
use mathlib.Core.Option.{Option, none, some}
use mathlib.Core.Path.{◌≡◌, sym}
use lib.ListN.{length}
use Rattle.rules.specs.Conditions.{Holds}
use Rattle.rules.specs.Editions.{Edition}
use Rattle.rules.specs.FieldUses.{TypeFields, given, omitted}
use Rattle.rules.specs.Format.{type_count, record_count}
use Rattle.rules.specs.Refusals.{Refusal, bad_counts, bad_length, ◌then◌}
use Rattle.rules.specs.Check.{counts_rule, form_refusal, size_refusal, layout_refusal, refusal}
use Rattle.rules.proofs.Tests.{both_pass, holds_unless}
use Rattle.records.specs.View.{entries_in, records_in}
use Rattle.parts.specs.declared.Parts.{Parts}
use Rattle.parts.specs.Layout.{IsLaidOut, ArePartsOf}
use Rattle.refusals.proofs.Reporting.{reports_first}
use Rattle.checker.specs.Limits.{InLimits}
use Rattle.checker.specs.Refused.{SizePasses}

-- Where they refuse, that is the refusal of the program, with its types given or omitted.
module _ (p : List ℕ) where
  pub size_passes : none ≡ size_refusal p → SizePasses p
  size_passes t = record { none_refused = sym t }

  module _ (edition : Edition) (m : Refusal) (told : some m ≡ size_refusal p) where
    size_refused : (fields : TypeFields) → some m ≡ layout_refusal fields edition p
    unfolding layout_refusal
    size_refused fields = reports_first m _ _ told

    pub size_refused_omitted : some m ≡ layout_refusal omitted edition p
    size_refused_omitted = size_refused omitted

    pub size_refused_given : some m ≡ refusal edition p
    unfolding refusal
    size_refused_given = reports_first m _ _ (size_refused given)

module _ (p : List ℕ) (passes : SizePasses p) where
  counts : Holds (counts_rule (type_count p) (record_count p))
  unfolding size_refusal
  counts = holds_unless _ bad_counts 0 (both_pass _ _ (both_pass _ _ passes.none_refused).1).0

  exact : length p ≡ 4 + 6 * type_count p + 16 * record_count p
  unfolding size_refusal
  exact = (holds_unless _ bad_length 0 (both_pass _ _ (both_pass _ _ passes.none_refused).1).1).0

  pub sized_laid_out : IsLaidOut p
  sized_laid_out = record { exact = exact }

  module _ (parts : Parts) (a : ArePartsOf p parts) where
    pub parts_sized : InLimits (entries_in parts.table.now) (records_in parts.records.now)
    parts_sized = record { few = a.entries_few; most = omega (arith, a.records_counted, counts.1.0) }

    pub form_told : (fields : TypeFields) (edition : Edition) (q : Option Refusal)
        → q ≡ form_refusal fields edition (entries_in parts.table.now) (records_in parts.records.now) → q ≡ layout_refusal fields edition p
    unfolding layout_refusal ◌then◌
    form_told fields edition q t = rw (passes.none_refused, ← a.entries_are, ← a.records_are) t

pub ruleset parting = (sized_laid_out, parts_sized, form_told)
