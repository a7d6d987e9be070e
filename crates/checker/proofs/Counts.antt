-- Refusals 3, 4 and 5, of a program's bytes: `counting` for search.
use Prim.Native.Nat.{ℕ, suc, ◌+◌, ◌*◌, ◌≤◌, ◌<◌}
use native.Mathlib.Omega.{arith}
use mathlib.Core.Bool.{Bool, true, false}
use mathlib.Core.List.{List, [], ◌∷◌}
use mathlib.Core.Option.{none, some}
use mathlib.Core.Path.{◌≡◌, sym, ◌∙◌}
use lib.ListN.{length}
use borrow.Author.Tests.{lt-ltb, le-ltb, eq-eqb, ne_eqb}
use Rattle.rules.specs.Conditions.{at_least, holds}
use Rattle.rules.specs.Format.{type_count, record_count}
use Rattle.rules.specs.Refusals.{program_short, bad_counts, bad_length, unless, ◌then◌}
use Rattle.rules.specs.Check.{counts_rule, size_refusal}

module _ (p : List ℕ) where
  -- 3.
  pub program_short_lem : length p < 4 → some (record { number = program_short; place = 0 }) ≡ size_refusal p
  unfolding size_refusal unless ◌then◌
  program_short_lem h = rw (le-ltb 4 (suc (length p)) (omega arith))

  module _ (long : 4 ≤ length p) (T R : ℕ) (eT : T ≡ type_count p) (eR : R ≡ record_count p) (b : Bool) (eb : b ≡ holds (counts_rule T R)) where
    enough : unless (at_least 4 (length p) ∷ []) program_short 0 ≡ none
    unfolding unless
    enough = rw (lt-ltb 4 (suc (length p)) (omega arith))

    tested : b ≡ holds (counts_rule (type_count p) (record_count p))
    tested = rw (← eT, ← eR) eb

    -- 4.
    pub counts_refused : b ≡ false → some (record { number = bad_counts; place = 0 }) ≡ size_refusal p
    unfolding size_refusal unless ◌then◌
    counts_refused n = rw (enough, sym tested ∙ n)

    module _ (good : b ≡ true) where
      in_limits : unless (counts_rule (type_count p) (record_count p)) bad_counts 0 ≡ none
      unfolding unless
      in_limits = rw (sym tested ∙ good)

      -- 5.
      pub length_refused : (length p ≡ 4 + 6 * T + 16 * R → ⊥) → some (record { number = bad_length; place = 0 }) ≡ size_refusal p
      unfolding size_refusal unless ◌then◌
      length_refused n = rw (enough, in_limits) (rw (ne_eqb (length p) (4 + 6 * type_count p + 16 * record_count p) (λ e. n (omega (arith, eT, eR)))))

      pub size_passed : length p ≡ 4 + 6 * T + 16 * R → none ≡ size_refusal p
      unfolding size_refusal unless ◌then◌
      size_passed e = rw (enough, in_limits) (rw (eq-eqb (length p) (4 + 6 * type_count p + 16 * record_count p) (omega (arith, eT, eR))))

pub ruleset counting = (program_short_lem, counts_refused, length_refused, size_passed)
