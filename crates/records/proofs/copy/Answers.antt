-- `copy` moves the bytes of one record.
use Rattle.std.proofs.Common.{rules, arith}
use Rattle.records.proofs.Copying.{block_ends, copy_ends, record_copied}
use Rattle.records.proofs.copy.Goals as goal

pub overflow_mul-i : goal.overflow_mul-i
overflow_mul-i c = omega (arith, block_ends _ _ _ c.requires.from c.requires.to)

pub overflow_mul-i-2 : goal.overflow_mul-i-2
overflow_mul-i-2 c = omega (arith, block_ends _ _ _ c.requires.from c.requires.to)

pub overflow_add-i : goal.overflow_add-i
overflow_add-i c = omega (arith, block_ends _ _ _ c.requires.from c.requires.to)

pub overflow_mul-j : goal.overflow_mul-j
overflow_mul-j c = omega (arith, copy_ends _ _ _ c.requires.from c.requires.to)

pub copy_within-requires-clause-in_bounds : goal.copy_within-requires-clause-in_bounds
copy_within-requires-clause-in_bounds c = block_ends _ _ _ c.requires.from c.requires.to

pub copy_within-requires-clause-dest_in_bounds : goal.copy_within-requires-clause-dest_in_bounds
copy_within-requires-clause-dest_in_bounds c = omega (arith, copy_ends _ _ _ c.requires.from c.requires.to)

pub returns : goal.returns
returns c = record_copied _ _ _ c.requires.from c.requires.to (λ k. search rules) _ c.copy_within.ensures.after
