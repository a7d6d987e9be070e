-- The invariant: the numbers up to i pass.
use Rattle.std.proofs.Common.{ℕ, true, ◌≤◌}
use Rattle.refusals.proofs.lowest.lowest_refusal.Given as goal

abbrev pub invariant-loop-i : goal.invariant-loop-i
invariant-loop-i g l = (n : ℕ) → 1 ≤ n → n ≤ l.i → goal.F-post g l.keeps n true
