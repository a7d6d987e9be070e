-- 10 to 12, then 14.
use Rattle.std.proofs.Common.{arith}
use Rattle.std.proofs.lemmas.Result.{err_from_is_err_and}
use Rattle.assigning.proofs.Faults.{own_stays, full_fault, no_fault}
use Rattle.assigning.proofs.fault.Goals as goal

pub returns-in_err-own_fault : goal.returns-in_err-own_fault
returns-in_err-own_fault c =
    let p = err_from_is_err_and c.from_residual.result c.from_residual.ensures.1 in
    rw (p.1, p.2) (own_stays _ _ c.entries.ensures _ _ _ _ _ c.in_err-own_fault.ensures)

pub returns-then-types-gt-MOST_TYPES : goal.returns-then-types-gt-MOST_TYPES
returns-then-types-gt-MOST_TYPES c = full_fault _ _ c.entries.ensures _ _ _ _ c.requires.has_bytes c.in_ok-own_fault.ensures (omega arith)

pub returns : goal.returns
returns c = no_fault _ _ c.entries.ensures _ _ _ _ c.requires.has_bytes c.in_ok-own_fault.ensures (omega arith)
