-- From a text that is written at place 0 to what the public functions promise, and the room that they have: `printing` for search. Assumes nothing.
use Prim.Native.Nat.{ℕ, ◌/◌, ◌≤◌, ◌<◌}
use native.Mathlib.Nat.{zero-add}
use native.Mathlib.Omega.{arith}
use mathlib.Core.Path.{◌≡◌, sym}
use mathlib.Core.List.{List}
use lib.ListN.{length}
use mir.Syntax.{w32}
use mir.Val.{Fits}
use Rattle.records.specs.Overwritten.{overwritten}
use Rattle.records.specs.View.{records_in}
use Rattle.records.proofs.Records.{records_length}
use Rattle.listing_text.specs.Text.{refused_text, first_line, record_lines, accepted_text}
use Rattle.listing_text.specs.declared.Text.{Text}
use Rattle.listing_text.specs.Parts.{RoomForPart, WroteText}
use Rattle.listing_text.specs.Buffers.{RoomForRecords, OneLine, Listable, Prints}
use Rattle.listing_text.proofs.Parts.{wrote_length, wrote_both}
use Rattle.listing_text.proofs.Lines.{numbers_room, line_wrote, refused_short, first_short}

pub prints : (s text s' : List ℕ) (end : ℕ) → WroteText s 0 text s' end → Prints s text s' end
unfolding overwritten
prints s text s' end w = record { fits = omega (arith, w.enough, w.ends); counts = omega (arith, w.ends); bytes = rw zero-add at w.bytes }

-- The same of the lent bytes that a text was made in.
pub made : (s part s' : List ℕ) (text : Text) → s' ≡ text.bytes.now → WroteText s 0 part text.bytes.now text.length → Prints s part s' text.length
made s part s' text e w = prints s part s' text.length (rw e w)

pub refused_room : (s : List ℕ) (number place : ℕ) → OneLine s → number < 4294967296 → place < 4294967296 → RoomForPart s 0 (refused_text number place)
refused_room s number place h k l = record { enough = omega (arith, h.room, refused_short number place k l) }

-- Of an accepted run: the count of the records is that of the bytes' view, and the first line leaves room for the others.
module _ (ending : ℕ) (bytes s : List ℕ) (h : Listable ending (records_in bytes) s) where
  pub count_fits : Fits w32 (length bytes / 16)
  count_fits = record { fits = omega (arith, h.few, records_length bytes) }

  module _ (steps type : ℕ) (k : steps < 4294967296) (l : type < 4294967296) where
    first_fits : length (first_line ending steps type (length bytes / 16)) ≤ 64
    first_fits = first_short ending steps type _ k l (omega (arith, h.few, records_length bytes))

    pub first_room : RoomForPart s 0 (first_line ending steps type (length bytes / 16))
    first_room = record { enough = omega (arith, h.room, first_fits) }

    pub rest_room : (s' : List ℕ) (end : ℕ) → WroteText s 0 (first_line ending steps type (length bytes / 16)) s' end → RoomForRecords (records_in bytes) (length bytes / 16) s' end
    rest_room s' end w = record {
      counts = sym (records_length bytes);
      few = omega (arith, h.few, records_length bytes);
      room = omega (arith, h.room, first_fits, w.ends, wrote_length s 0 _ s' end w, records_length bytes);
    }

pub accepted_wrote : (ending steps type : ℕ) (bytes s s' : List ℕ) (place : ℕ) (s'' : List ℕ) (end : ℕ) → WroteText s 0 (first_line ending steps type (length bytes / 16)) s' place
    → WroteText s' place (record_lines 1 (records_in bytes)) s'' end → WroteText s 0 (accepted_text ending steps type (records_in bytes)) s'' end
unfolding accepted_text
accepted_wrote ending steps type bytes s s' place s'' end w v = rw (records_length bytes) (wrote_both s 0 _ s' place w _ s'' end v)

pub ruleset printing = (prints, refused_room, numbers_room, line_wrote, count_fits, first_room, rest_room, accepted_wrote)
