-- Ten digits at most.
use Rattle.std.proofs.Common.{◌/◌, arith}
use Rattle.listing_text.proofs.Decimals.{decimal_short}
use Rattle.listing_text.proofs.+digit_count.Goals as goal

pub overflow_add-result : goal.overflow_add-result
overflow_add-result t c = omega (arith, c.digit_count.ensures, decimal_short 9 (c.args.n / 10) (omega arith))
