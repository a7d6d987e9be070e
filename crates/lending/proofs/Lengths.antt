-- Refusals 1 and 2 by the lengths: what it means that neither is made, and that one is.
use Prim.Native.Nat.{ℕ, suc, ◌≤◌, ◌<◌}
use native.Mathlib.Omega.{arith}
use mathlib.Core.Option.{none, some}
use mathlib.Core.Path.{◌≡◌, sym}
use borrow.Author.Tests.{lt-ltb, le-ltb}
use Rattle.rules.specs.Refusals.{output_short, work_short, unless, ◌then◌}
use Rattle.rules.specs.Run.{output_needed, work_needed, buffers_refusal}
use Rattle.rules.proofs.Meaning.{buffers_passed}
use Rattle.rules.proofs.Tests.{both_pass, holds_unless}

module _ (o w : ℕ) where
  pub output_short_lem : o < output_needed → some (record { number = output_short; place = 0 }) ≡ buffers_refusal o w
  unfolding unless ◌then◌
  output_short_lem h = rw (le-ltb output_needed (suc o) (omega arith))

  pub work_short_lem : output_needed ≤ o → w < work_needed → some (record { number = work_short; place = 0 }) ≡ buffers_refusal o w
  unfolding unless ◌then◌
  work_short_lem room h = rw (lt-ltb output_needed (suc o) (omega arith)) (rw (le-ltb work_needed (suc w) (omega arith)))

  pub both_long : output_needed ≤ o → work_needed ≤ w → none ≡ buffers_refusal o w
  both_long room long = sym (buffers_passed o w room long)

-- Buffers that are not refused are long enough.
module _ (o w : ℕ) (lent : none ≡ buffers_refusal o w) where
  pub lent_output : output_needed ≤ o
  lent_output = omega (arith, (holds_unless _ output_short 0 (both_pass _ _ (sym lent)).0).0)

  pub lent_work : work_needed ≤ w
  lent_work = omega (arith, (holds_unless _ work_short 0 (both_pass _ _ (sym lent)).1).0)

pub ruleset lengths = (output_short_lem, work_short_lem, both_long)
