-- A part of a text that is put into a list of bytes at a place.
use Rattle.std.specs.Prelude.{ℕ, ◌+◌, ◌≤◌, List, ◌≡◌, length}
use Rattle.records.specs.Overwritten.{overwritten}
use Rattle.listing_text.specs.declared.Text.{Text}

-- There is room for `part` from place `at` on.
pub record RoomForPart (s : List ℕ) (at : ℕ) (part : List ℕ) : Type 0 where
  pub enough : at + length part ≤ length s

-- s' is s with `part` written from place `at` on; `end` is the place after it.
pub record WroteText (s : List ℕ) (at : ℕ) (part s' : List ℕ) (end : ℕ) : Type 0 where
  pub enough : at + length part ≤ length s
  pub bytes : s' ≡ overwritten s at part
  pub ends : end ≡ at + length part

-- The text has room for one part more; and text' is the text with it, made in the same lent bytes.
abbrev pub HasRoom : Text → List ℕ → Type 0
HasRoom text part = RoomForPart text.bytes.now text.length part

pub record Takes (text : Text) (part : List ℕ) (text' : Text) : Type 0 where
  pub same : text'.bytes.ghost_name ≡ text.bytes.ghost_name
  pub wrote : WroteText text.bytes.now text.length part text'.bytes.now text'.length
