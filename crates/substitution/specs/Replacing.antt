-- Copies in which variables give way to what arguments stand for.
use Rattle.std.specs.Prelude.{ℕ, ◌+◌, ◌*◌, ◌<◌, ◌≤◌, List, ◌≡◌}
use Rattle.rules.specs.Terms.{Term, size}
use Rattle.rules.specs.FreeBounds.{free_bound}
use Rattle.rules.specs.Indices.{Change, replacing}
use Rattle.rules.specs.Format.{Record}
use Rattle.substitution.specs.declared.arguments.Arguments.{Arguments}
use Rattle.substitution.specs.declared.replacing.Copied.{Copied}
use Rattle.substitution.specs.Arguments.{count_of, StandForAll}
use Rattle.copies.specs.Copying.{Copies, Counts}

-- The arguments stand for ts. The tree of each reaches at most b far: its free bound and four for each of its records.
pub record Given (rs : List Record) (lo hi : ℕ) (g : Arguments) (ts : List Term) (b : ℕ) : Type 0 where
  pub stand : StandForAll rs lo hi g ts
  pub reach : (j : ℕ) (z : Term) (l : j < count_of g) → free_bound (stand.each j z l).tree + 4 * size (stand.each j z l).tree ≤ b

-- This way replaces the variables of as many binders next to d as there are arguments.
pub record Replacing (g : Arguments) (rs : List Record) (lo hi : ℕ) (c : Change) (b : ℕ) : Type 0 where
  pub terms : List Term
  pub change : c ≡ replacing terms
  pub given : Given rs lo hi g terms b

-- The copy, the place after it, and how many variables gave way.
pub record Replaces (rs rs' : List Record) (src dst d : ℕ) (g : Arguments) (r : Copied) : Type 0 where
  pub copies : Copies (Replacing g) rs rs' src dst d r.end
  pub counts : Counts (Replacing g) (count_of g) rs src dst d r.replaced
