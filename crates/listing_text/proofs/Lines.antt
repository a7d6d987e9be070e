-- A line that is written as its word and its numbers, and how long a line is at most: `lining` for search. Assumes nothing.
use Prim.Native.Nat.{ℕ, ◌+◌, ◌≤◌, ◌<◌}
use native.Mathlib.Omega.{arith}
use mathlib.Core.Bool.{Bool, true, false}
use mathlib.Core.List.{List, [], ◌∷◌}
use lib.Dec.{eqb}
use lib.ListN.{length, length-append}
use Rattle.rules.specs.Lists.{pick, joined}
use Rattle.rules.specs.Format.{Record}
use Rattle.rules.proofs.Bytes.{RecordFits}
use Rattle.listing_text.specs.Decimal.{decimal}
use Rattle.listing_text.specs.Text.{spaced, numbers, line, refused_word, value_word, spent_word, full_word, ending_word, refused_text, first_line, record_line}
use Rattle.listing_text.specs.Parts.{RoomForPart, WroteText}
use Rattle.listing_text.proofs.Parts.{room_first, room_rest, wrote_both}
use Rattle.listing_text.proofs.Decimals.{decimal_short}

-- The word, then the numbers.
module _ (s : List ℕ) (at : ℕ) (word ns : List ℕ) where
  pub word_room : RoomForPart s at (line word ns) → RoomForPart s at word
  unfolding line
  word_room h = room_first s at word (numbers ns) h

  module _ (s' : List ℕ) (place : ℕ) (w : WroteText s at word s' place) where
    pub numbers_room : RoomForPart s at (line word ns) → RoomForPart s' place (numbers ns)
    unfolding line
    numbers_room h = room_rest s at word s' place w (numbers ns) h

    pub line_wrote : (s'' : List ℕ) (end : ℕ) → WroteText s' place (numbers ns) s'' end → WroteText s at (line word ns) s'' end
    unfolding line
    line_wrote s'' end v = wrote_both s at word s' place w (numbers ns) s'' end v

pub ruleset lining = (word_room, numbers_room, line_wrote)

-- A number of two bytes has 5 digits at most, one of four bytes 10.
short₁₆ : (n : ℕ) → n < 65536 → length (decimal n) ≤ 5
short₁₆ n h = decimal_short 4 n (omega arith)

short₃₂ : (n : ℕ) → n < 4294967296 → length (decimal n) ≤ 10
short₃₂ n h = decimal_short 9 n (omega arith)

-- A line's numbers, one by one.
no_numbers : length (numbers []) ≤ 1
unfolding numbers joined
no_numbers = omega arith

one_number : (n : ℕ) (ns : List ℕ) (k m : ℕ) → length (decimal n) ≤ k → length (numbers ns) ≤ m → length (numbers (n ∷ ns)) ≤ 1 + k + m
unfolding numbers joined spaced
one_number n ns k m h l = simp (length-append) (omega (arith, simp length-append at l))

line_short : (word ns : List ℕ) (k m : ℕ) → length word ≤ k → length (numbers ns) ≤ m → length (line word ns) ≤ k + m
unfolding line
line_short word ns k m h l = simp length-append (omega arith)

either_short : (b : Bool) (v w : List ℕ) → length v ≤ 5 → length w ≤ 5 → length (pick b v w) ≤ 5
either_short true v w h k = h
either_short false v w h k = k

ending_short : (n : ℕ) → length (ending_word n) ≤ 5
unfolding ending_word
ending_short n = either_short (eqb n 1) value_word _ (omega arith) (either_short (eqb n 2) spent_word full_word (omega arith) (omega arith))

-- Each line fits into 64 bytes.
pub refused_short : (number place : ℕ) → number < 4294967296 → place < 4294967296 → length (refused_text number place) ≤ 64
refused_short number place h k =
    let l = one_number number _ 10 _ (short₃₂ number h) (one_number place [] 10 1 (short₃₂ place k) no_numbers) in
    omega (arith, line_short refused_word _ 7 _ (omega arith) l)

pub first_short : (ending steps type count : ℕ) → steps < 4294967296 → type < 4294967296 → count < 65536 → length (first_line ending steps type count) ≤ 64
first_short ending steps type count h k m =
    let l = one_number steps _ 10 _ (short₃₂ steps h) (one_number type _ 10 _ (short₃₂ type k) (one_number count [] 5 1 (short₁₆ count m) no_numbers)) in
    omega (arith, line_short (ending_word ending) _ 5 _ (ending_short ending) l)

pub record_short : (n : ℕ) (r : Record) → n < 65536 → RecordFits r → length (record_line n r) ≤ 64
record_short n r h f =
    let l₃ = one_number r.first _ 5 _ (short₁₆ _ f.first) (one_number r.next _ 5 _ (short₁₆ _ f.next) (one_number r.fields.value [] 10 1 (short₃₂ _ f.value) no_numbers)) in
    let l₅ = one_number r.fields.a _ 5 _ (short₁₆ _ f.a) (one_number r.fields.b _ 5 _ (short₁₆ _ f.b) l₃) in
    let l₇ = one_number r.kind _ 5 _ (short₁₆ _ f.kind) (one_number r.fields.type _ 5 _ (short₁₆ _ f.type) l₅) in
    omega (arith, line_short (decimal n) _ 5 _ (short₁₆ n h) l₇)
