-- The laws of a rule's check, where code tests `!ok`.
use Prim.Native.Nat.{ℕ}
use mathlib.Core.Bool.{Bool, true, false, not}
use mathlib.Core.Option.{none, some}
use mathlib.Core.Path.{◌≡◌, sym, ◌∙◌}
use borrow.Author.Tests.{not-true, not-false}
use Rattle.rules.specs.Conditions.{Rule, holds}
use Rattle.rules.specs.Refusals.{unless}
use Rattle.refusals.specs.Reports.{refusal_by}

pub kept_by_test : (rule : Rule) (number place : ℕ) (b : Bool) → b ≡ holds rule → not b ≡ false → unless rule number place ≡ none
unfolding unless
kept_by_test rule number place b e n = rw (sym e ∙ not-false b n)

pub broken_by_test : (rule : Rule) (number place : ℕ) (b : Bool) → b ≡ holds rule → not b ≡ true → unless rule number place ≡ some (refusal_by number place)
unfolding unless
broken_by_test rule number place b e n = rw (sym e ∙ not-true b n)
