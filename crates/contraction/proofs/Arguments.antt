-- An argument of each form stands for its term, where its tree stands before lo and is low; and one or two arguments for their terms.
use Prim.Native.Nat.{ℕ, zero, suc, ◌+◌, ◌*◌, ◌<◌, ◌≤◌}
use native.Mathlib.Omega.{arith}
use mathlib.Core.List.{List, [], ◌∷◌}
use mathlib.Core.Logic.{inl}
use mathlib.Core.Path.{refl}
use lib.Dec.{eqb}
use lib.ListN.{get_or}
use Rattle.std.specs.Prelude.{Some}
use Rattle.rules.specs.Lists.{pick}
use Rattle.rules.specs.Terms.{Term, size}
use Rattle.rules.specs.FreeBounds.{free_bound}
use Rattle.rules.specs.Types.{Table, part_a, part_b}
use Rattle.rules.specs.Matching.{quoted, opened}
use Rattle.rules.specs.Format.{Record}
use Rattle.substitution.specs.declared.arguments.Argument.{Argument}
use Rattle.substitution.specs.declared.arguments.Argument.TheVariants.{Tree, Quote, Opened}
use Rattle.substitution.specs.Arguments.{place_of, described, count_of, argument_of, StandsFor}
use Rattle.contraction.specs.Plans.{Stands, AllStand, only_one}
use Rattle.contraction.proofs.Places.{Before}

module _ {rs : List Record} {lo i : ℕ} {t : Term} (h : Before rs lo i t) (hi : ℕ) where
  pub tree_stands : Stands rs lo hi (Tree i) t
  unfolding place_of described
  tree_stands = record { stands = record { tree = t; there = h.there; outside = inl h.upto; is = refl }; low = h.low }

  pub quote_stands : (n : ℕ) → Stands rs lo hi (Quote i n) (quoted n t)
  unfolding place_of described
  quote_stands n = record { stands = record { tree = t; there = h.there; outside = inl h.upto; is = refl }; low = h.low }

  pub opened_stands : (types : Table) (n : ℕ) → Stands rs lo hi (Opened i n (part_a types n) (part_b types n)) (opened types n t)
  unfolding place_of described
  opened_stands types n = record { stands = record { tree = t; there = h.there; outside = inl h.upto; is = refl }; low = h.low }

module _ {rs : List Record} {lo hi : ℕ} where
  pub one_stands : {g : Argument} {t : Term} → Stands rs lo hi g t → AllStand rs lo hi (only_one g) (t ∷ [])
  unfolding count_of argument_of
  one_stands {g} {t} h = record { stand = record { count = refl; each = each }; reach = reach }
    where
      each : (j : ℕ) (z : Term) → j < 1 → StandsFor rs lo hi g (get_or (t ∷ []) j z)
      each zero z l = h.stands
      each (suc j) z l = absurd (omega arith)

      reach : (j : ℕ) (z : Term) (l : j < 1) → free_bound (each j z l).tree + 4 * size (each j z l).tree ≤ 8192
      reach zero z l = omega (arith, h.low)
      reach (suc j) z l = absurd (omega arith)

  pub two_stand : {g g' : Argument} {t u : Term} → Stands rs lo hi g t → Stands rs lo hi g' u → AllStand rs lo hi (record { first = g; second = Some g' }) (t ∷ u ∷ [])
  unfolding count_of argument_of
  two_stand {g} {g'} {t} {u} h h' = record { stand = record { count = refl; each = each }; reach = reach }
    where
      each : (j : ℕ) (z : Term) → j < 2 → StandsFor rs lo hi (pick (eqb j 0) g g') (get_or (t ∷ u ∷ []) j z)
      each zero z l = h.stands
      each (suc zero) z l = h'.stands
      each (suc (suc j)) z l = absurd (omega arith)

      reach : (j : ℕ) (z : Term) (l : j < 2) → free_bound (each j z l).tree + 4 * size (each j z l).tree ≤ 8192
      reach zero z l = omega (arith, h.low)
      reach (suc zero) z l = omega (arith, h'.low)
      reach (suc (suc j)) z l = absurd (omega arith)
