-- The word of an ending, case by case: `wording` for search. Assumes nothing.
use Prim.Native.Nat.{ℕ}
use mathlib.Core.Path.{◌≡◌}
use mathlib.Core.List.{List}
use borrow.Author.Tests.{ne_eqb}
use Rattle.listing_text.specs.Text.{value_word, spent_word, full_word, ending_word}
use Rattle.listing_text.specs.Parts.{RoomForPart, WroteText}

-- n is an ending with that word.
pub record Worded (n : ℕ) (word : List ℕ) : Type 0 where
  pub is : ending_word n ≡ word

module _ (n : ℕ) where
  pub value_worded : n ≡ 1 → Worded n value_word
  unfolding ending_word
  value_worded e = record { is = rw e }

  pub spent_worded : n ≡ 2 → Worded n spent_word
  unfolding ending_word
  spent_worded e = record { is = rw e }

  pub full_worded : (n ≡ 1 → ⊥) → (n ≡ 2 → ⊥) → Worded n full_word
  unfolding ending_word
  full_worded h k = record { is = rw (ne_eqb n 1 h, ne_eqb n 2 k) }

-- Where the word is written, the ending's is.
module _ (s : List ℕ) (at n : ℕ) (word : List ℕ) where
  pub ending_room : RoomForPart s at (ending_word n) → Worded n word → RoomForPart s at word
  ending_room h w = rw w.is at h

  pub ending_wrote : (s' : List ℕ) (end : ℕ) → WroteText s at word s' end → Worded n word → WroteText s at (ending_word n) s' end
  ending_wrote s' end h w = rw w.is h

pub ruleset wording = (value_worded, spent_worded, ending_room, ending_wrote)
