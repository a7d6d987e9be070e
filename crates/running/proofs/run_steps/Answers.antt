-- `run_steps` meets its contract. The invariant: the run of the first term stands where the state is.
use Rattle.std.proofs.Common.{rules}
use Rattle.running.proofs.Looping.{looping, going_full, going_less, going_on}
use Rattle.running.proofs.run_steps.Goals as goal

pub loop-s-init : goal.loop-s-init
loop-s-init c = search (looping, rules)

pub returns-then-is_value : goal.returns-then-is_value
returns-then-is_value c = search (looping, rules)

pub returns-then-fuel-s : goal.returns-then-fuel-s
returns-then-fuel-s c = search (looping, rules)

pub returns-in-None : goal.returns-in-None
returns-in-None c = going_full _ _ _ _ _ _ _ c.loop-s.invariant _ _ c.seek-s.ensures c.if-fuel-s.false _ c.in-None.ensures

pub loop-s-smaller : goal.loop-s-smaller
loop-s-smaller c = going_less _ _ _ _ _ _ _ c.loop-s.invariant _ _ c.seek-s.ensures c.if-fuel-s.false _ _ c.in-Some.ensures

pub loop-s-preserved : goal.loop-s-preserved
loop-s-preserved c = going_on _ _ _ _ _ _ _ c.loop-s.invariant _ _ c.seek-s.ensures c.if-fuel-s.false _ _ c.in-Some.ensures
