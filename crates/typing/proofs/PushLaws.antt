-- How many variables are bound over a record's children: two at most.
use Prim.Native.Nat.{◌≤◌}
use native.Mathlib.Omega.{arith}
use lib.ListN.{length}
use Rattle.rules.specs.Kinds.{Kind}
use Rattle.rules.specs.Terms.{Fields}
use Rattle.rules.specs.Binders.{over_first, over_second}
use Rattle.rules.proofs.KindTable.{each_kind}

pub first_few : (f : Fields) (k : Kind) → length (over_first k f) ≤ 2
first_few f = each_kind (λ k. length (over_first k f) ≤ 2) (omega arith)

pub second_few : (f : Fields) (k : Kind) → length (over_second k f) ≤ 2
second_few f = each_kind (λ k. length (over_second k f) ≤ 2) (omega arith)
