-- A refusal is one of the twelve.
use Prim.Native.Nat.{ℕ, zero, suc, ◌≤◌}
use native.Mathlib.Omega.{arith}
use mathlib.Core.List.{List}
use mathlib.Core.Bool.{Bool, true, false}
use lib.ListN.{length}
use mathlib.Core.Option.{Option, none, some}
use Rattle.rules.specs.Lists.{pick}
use Rattle.rules.specs.Editions.{Edition}
use Rattle.rules.specs.Kinds.{Kind}
use Rattle.rules.specs.Terms.{Fields}
use Rattle.rules.specs.Types.{Table}
use Rattle.rules.specs.Conditions.{Rule, holds}
use Rattle.rules.specs.FieldUses.{TypeFields, given}
use Rattle.rules.specs.Typing.{Env}
use Rattle.rules.specs.Format.{Record, table_of, records_of}
use Rattle.rules.specs.Refusals.{Refusal, NumberedTo, OneOfTwelve, output_short, work_short, program_short, bad_counts, bad_length, bad_entry, bad_field, bad_link, bad_children, bad_index, bad_level, bad_type, type_written, unless, ◌then◌, lowest}
use Rattle.rules.specs.Check.{omitted_rule, judged, walked, form_refusal, size_refusal, layout_refusal, refusal}
use Rattle.rules.specs.Run.{buffers_refusal, run_refusal}
use Rattle.rules.proofs.General.{Gives}
use Rattle.rules.proofs.Tests.{lowest_holds}

-- Refusals of the numbers 1 to `most`, which 12 is among.
module _ (most : ℕ) (high : bad_type ≤ most) where
  abbrev Among : Option Refusal → Type 0
  Among = Gives (NumberedTo most)

  pub either : (x y : Option Refusal) → Among x → Among y → Among (x then y)
  unfolding ◌then◌
  either none y h k = k
  either (some r) y h k = h

  pub by : (r : Rule) (n place : ℕ) → output_short ≤ n → n ≤ most → Among (unless r n place)
  unfolding unless
  by r n place h k = go (holds r)
    where
      go : (b : Bool) → Among (pick b none (some (record { number = n; place = place })))
      go true = tt
      go false = (h, k)

  pub lowest_by : (rule : ℕ → Rule) (n from count : ℕ) → output_short ≤ n → n ≤ most → Among (lowest rule n from count)
  unfolding lowest
  lowest_by rule n from zero h k = tt
  lowest_by rule n from (suc count) h k = either _ _ (by (rule from) n from h k) (lowest_by rule n (suc from) count h k)

  pub judged_by : (types : Table) (Γ : Env) (l n : ℕ) (k : Kind) (f : Fields) (x y z : ℕ) → Among (judged types Γ l n k f x y z)
  unfolding judged
  judged_by types Γ l n k f x y z =
      either _ _ (by _ bad_index n (omega arith) (omega arith)) (either _ _ (by _ bad_level n (omega arith) (omega arith)) (by _ bad_type n (omega arith) (omega arith)))

  -- A layout's, where 13 is among them or asks nothing.
  pub layout_by : (fields : TypeFields) (edition : Edition) (program : List ℕ) → Among (lowest (omitted_rule fields (records_of program)) type_written 1 (length (records_of program)))
      → Among (layout_refusal fields edition program)
  unfolding form_refusal size_refusal layout_refusal
  layout_by fields edition program thirteen =
      either _ _
      (either _ _ (by _ program_short 0 (omega arith) (omega arith))
      (either _ _ (by _ bad_counts 0 (omega arith) (omega arith)) (by _ bad_length 0 (omega arith) (omega arith))))
      (either _ _ (lowest_by _ bad_entry _ _ (omega arith) (omega arith))
      (either _ _ (lowest_by _ bad_field _ _ (omega arith) (omega arith))
      (either _ _ thirteen
      (either _ _ (lowest_by _ bad_link _ _ (omega arith) (omega arith)) (lowest_by _ bad_children _ _ (omega arith) (omega arith))))))

  -- Those of the buffers, before a program's.
  pub buffers_by : (out_length work_length : ℕ) (o : Option Refusal) → Among o → Among (buffers_refusal out_length work_length then o)
  buffers_by out_length work_length o h = either _ _ (either _ _ (by _ output_short 0 (omega arith) (omega arith)) (by _ work_short 0 (omega arith) (omega arith))) h

abbrev Twelve : Option Refusal → Type 0
Twelve = Gives OneOfTwelve

walked_by : (left : ℕ) (types : Table) (rs : List Record) (Γ : Env) (l n : ℕ) → Twelve (walked left types rs Γ l n)
unfolding walked
walked_by zero types rs Γ l n = tt
walked_by (suc left) types rs Γ l zero = tt
walked_by (suc left) types rs Γ l (suc m) =
    let e = either bad_type (omega arith) in
    e _ _ (judged_by bad_type (omega arith) _ _ _ _ _ _ _ _ _)
    (e _ _ (walked_by left types rs _ _ _) (e _ _ (walked_by left types rs _ _ _) (walked_by left types rs _ _ _)))

pub refusal_numbered : (edition : Edition) (program : List ℕ) → Gives OneOfTwelve (refusal edition program)
unfolding refusal
refusal_numbered edition program =
    let rs = records_of program in
    either bad_type (omega arith) _ _
    (layout_by bad_type (omega arith) given edition program (rw (lowest_holds (omitted_rule given rs) type_written 1 (length rs) (λ _ _ _. tt)) tt))
    (walked_by _ (table_of program) rs _ _ _)

pub one_of_twelve : (edition : Edition) (program : List ℕ) (out_length work_length : ℕ) → Gives OneOfTwelve (run_refusal edition program out_length work_length)
one_of_twelve edition program out_length work_length = buffers_by bad_type (omega arith) out_length work_length (refusal edition program) (refusal_numbered edition program)
