-- The tens of a number are fewer.
use Rattle.listing_text.proofs.+digit_count.Given as goal

abbrev pub decreases-digit_count : goal.decreases-digit_count
decreases-digit_count l = l.n
