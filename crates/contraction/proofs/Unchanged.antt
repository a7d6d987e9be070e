-- Terms that a replacement leaves as they are: any in which nothing is replaced, and one without free indices. No variable gives way then.
use Prim.Native.Nat.{ℕ}
use native.Mathlib.Omega.{arith}
use mathlib.Core.List.{[]}
use mathlib.Core.Path.{◌≡◌, ◌∙◌}
use Rattle.rules.specs.Terms.{Term}
use Rattle.rules.specs.FreeBounds.{free_bound}
use Rattle.rules.specs.Indices.{replaced, gave_way}
use Rattle.rules.proofs.Shifts.{none_removed, unshifted, replacing_shifts, none_gives_way}
use Rattle.substitution.proofs.Sums.{block_gives_none}

pub replaced_none : (t : Term) → replaced [] t ≡ t
unfolding replaced
replaced_none t = replacing_shifts [] 0 t (none_removed 0 t) ∙ unshifted 0 t

pub none_replaced : (t : Term) → gave_way 0 0 t ≡ 0
none_replaced t = none_gives_way 0 0 t (none_removed 0 t)

-- No variable gives way of a tree without free indices.
pub closed_replaced : (m : ℕ) (t : Term) → free_bound t ≡ 0 → gave_way m 0 t ≡ 0
closed_replaced m t b = block_gives_none m 0 t (omega arith)
