-- The children of a low tree are low.
use Prim.Native.Nat.{ℕ}
use native.Mathlib.Omega.{arith}
use Rattle.rules.specs.Lists.{All}
use Rattle.rules.specs.Terms.{Term, leaf, unary, binary, ternary, size}
use Rattle.rules.specs.FreeBounds.{free_bound}
use Rattle.rules.proofs.Written.{binds_one, binds_two}
use Rattle.rules.proofs.FreeBounds.{child_low, both_low, parts_low}
use Rattle.terms.specs.Children.{kids}
use Rattle.terms.specs.Measuring.{Low}

pub low_kids : (n : ℕ) (t : Term) → Low n t → All (Low n) (kids t)
unfolding kids size
low_kids n (leaf k f) h = tt
low_kids n (unary k f t) h = (omega (arith, child_low (free_bound (unary k f t)) k f t (omega arith), binds_one k f), tt)
low_kids n (binary k f t u) h =
    let (p, q) = both_low (free_bound (binary k f t u)) k f t u (omega arith) in
    (omega arith, (omega arith, tt))
low_kids n (ternary k f t s e) h =
    let (_, p, q, r) = parts_low (free_bound (ternary k f t s e)) k f t s e (omega arith) in
    (omega arith, (omega (arith, binds_two k f), (omega arith, tt)))
