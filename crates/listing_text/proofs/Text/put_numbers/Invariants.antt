-- The numbers before this one are written.
use Rattle.std.proofs.Common.{◌≡◌}
use Rattle.listing_text.proofs.Numbers.{Numbering}
use Rattle.listing_text.proofs.Text.put_numbers.Given as goal

abbrev pub invariant-loop-n : goal.invariant-loop-n
invariant-loop-n l = record {
  same : l.self.bytes.ghost_name ≡ l.fn.self.bytes.ghost_name;
  numbers : Numbering l.fn.self.bytes.now l.fn.self.length l.ns l.self.bytes.now l.self.length l.n-index;
}
