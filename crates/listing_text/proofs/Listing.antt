-- The lines of records that are written one after another: `listing` for search. Assumes nothing.
use Prim.Native.Nat.{ℕ, suc, ◌+◌, ◌*◌, ◌≤◌, ◌<◌}
use native.Mathlib.Nat.{add-zero}
use native.Mathlib.Numerals.{add-one}
use native.Mathlib.Omega.{arith}
use mathlib.Core.Path.{◌≡◌, sym, ap, ◌∙◌}
use mathlib.Core.List.{List, [], ◌∷◌, ◌++◌, append_assoc, append-nil}
use lib.ListN.{length, get_or, take}
use lib.Seq.{take-suc, length-take-le}
use mir.Syntax.{w32}
use mir.Val.{Fits}
use Rattle.rules.specs.Format.{Record, no_record}
use Rattle.rules.proofs.Bytes.{RecordFits}
use Rattle.listing_text.specs.Text.{record_line, record_lines}
use Rattle.listing_text.specs.Parts.{RoomForPart, WroteText}
use Rattle.listing_text.specs.Buffers.{RoomForRecords}
use Rattle.listing_text.proofs.Parts.{nothing_wrote, wrote_length, wrote_both}
use Rattle.listing_text.proofs.Lines.{record_short}

-- The lines of the first i records, and one more.
lines_append : (from : ℕ) (rs ss : List Record) → record_lines from (rs ++ ss) ≡ record_lines from rs ++ record_lines (from + length rs) ss
unfolding record_lines
lines_append from [] ss = rw (add-zero from)
lines_append from (r ∷ rs) ss =
    let n : suc from + length rs ≡ from + suc (length rs) = omega arith in
    ap (λ l. record_line from r ++ l) (rw n at (lines_append (suc from) rs ss)) ∙ sym (append_assoc (record_line from r) (record_lines (suc from) rs) _)

lines_more : (rs : List Record) (i : ℕ) → i < length rs → record_lines 1 (take (i + 1) rs) ≡ record_lines 1 (take i rs) ++ record_line (i + 1) (get_or rs i no_record)
unfolding record_lines
lines_more rs i h =
    let n : 1 + length (take i rs) ≡ i + 1 = omega (arith, length-take-le i rs (omega arith)) in
    rw (add-one i, take-suc rs i no_record h, lines_append, n, append-nil, add-one i)

-- The lines of the first i records are written.
pub record Listing (rs : List Record) (count : ℕ) (s : List ℕ) (at : ℕ) (s' : List ℕ) (end i : ℕ) : Type 0 where
  pub given : RoomForRecords rs count s at
  pub reached : i ≤ count
  pub short : end ≤ at + 64 * i
  pub wrote : WroteText s at (record_lines 1 (take i rs)) s' end

module _ (rs : List Record) (count : ℕ) (s : List ℕ) (at : ℕ) where
  pub listing_starts : RoomForRecords rs count s at → Listing rs count s at s at 0
  unfolding record_lines
  listing_starts h = record { given = h; reached = omega arith; short = omega arith; wrote = nothing_wrote s at (omega (arith, h.room)) }

  module _ (s' : List ℕ) (end i : ℕ) (p : Listing rs count s at s' end i) where
    module _ (l : i < count) where
      pub listing_reads : i < length rs
      listing_reads = omega (arith, p.given.counts)

      pub listing_number : Fits w32 (i + 1)
      listing_number = record { fits = omega (arith, p.given.few) }

      module _ (r : Record) (e : r ≡ get_or rs i no_record) (f : RecordFits r) where
        line_fits : length (record_line (i + 1) r) ≤ 64
        line_fits = record_short (i + 1) r (omega (arith, p.given.few)) f

        pub listing_room : RoomForPart s' end (record_line (i + 1) r)
        listing_room = record { enough = omega (arith, line_fits, p.short, p.given.room, wrote_length s at _ s' end p.wrote) }

        pub listing_goes_on : (s'' : List ℕ) (end' : ℕ) → WroteText s' end (record_line (i + 1) r) s'' end' → Listing rs count s at s'' end' (i + 1)
        listing_goes_on s'' end' w = record {
          given = p.given;
          reached = omega arith;
          short = omega (arith, line_fits, p.short, w.ends);
          wrote = rw (lines_more rs i listing_reads, ← e) (wrote_both s at _ s' end p.wrote _ s'' end' w);
        }

pub ruleset listing = (listing_starts, listing_reads, listing_number, listing_room, listing_goes_on)
