-- The lines of the first i records are written.
use Rattle.std.proofs.Common.{◌≡◌}
use Rattle.records.specs.View.{records_in}
use Rattle.listing_text.proofs.Listing.{Listing}
use Rattle.listing_text.proofs.Text.put_records.Given as goal

abbrev pub invariant-loop-i : goal.invariant-loop-i
invariant-loop-i l = record {
  same : l.self.bytes.ghost_name ≡ l.fn.self.bytes.ghost_name;
  lines : Listing (records_in l.records) l.count l.fn.self.bytes.now l.fn.self.length l.self.bytes.now l.self.length l.i;
}
