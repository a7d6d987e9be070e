-- Numbers that are written one by one, each after a space: `numbering` for search. Assumes nothing.
use Prim.Native.Nat.{ℕ, suc, ◌+◌, ◌≤◌, ◌<◌}
use native.Mathlib.Numerals.{add-one}
use native.Mathlib.Omega.{arith}
use mathlib.Core.Path.{◌≡◌, refl, ap, ◌∙◌}
use mathlib.Core.List.{List, [], ◌∷◌, ◌++◌, append_assoc, append-nil}
use lib.ListN.{length, get_or, take, drop}
use lib.Seq.{split_at, take-suc, take_all}
use Rattle.rules.specs.Lists.{joined}
use Rattle.listing_text.specs.Decimal.{decimal}
use Rattle.listing_text.specs.Text.{space, newline, spaced, numbers}
use Rattle.listing_text.specs.Parts.{RoomForPart, WroteText}
use Rattle.listing_text.proofs.Parts.{nothing_wrote, room_first, room_rest, wrote_both}

-- One number: a space and its digits.
module _ (s : List ℕ) (at n : ℕ) where
  pub space_room : RoomForPart s at (spaced n) → RoomForPart s at (space ∷ [])
  unfolding spaced
  space_room h = room_first s at (space ∷ []) (decimal n) h

  module _ (s' : List ℕ) (place : ℕ) (w : WroteText s at (space ∷ []) s' place) where
    pub number_room : RoomForPart s at (spaced n) → RoomForPart s' place (decimal n)
    unfolding spaced
    number_room h = room_rest s at (space ∷ []) s' place w (decimal n) h

    pub number_wrote : (s'' : List ℕ) (end : ℕ) → WroteText s' place (decimal n) s'' end → WroteText s at (spaced n) s'' end
    unfolding spaced
    number_wrote s'' end v = wrote_both s at (space ∷ []) s' place w (decimal n) s'' end v

-- The numbers in front, one number, and the rest of the line.
joined_append : (f : ℕ → List ℕ) (xs ys : List ℕ) → joined f (xs ++ ys) ≡ joined f xs ++ joined f ys
unfolding joined
joined_append f [] ys = refl
joined_append f (x ∷ xs) ys = ap (λ l. f x ++ l) (joined_append f xs ys) ∙ simp append_assoc

numbers_split : (ns : List ℕ) (i : ℕ) → i < length ns → numbers ns ≡ joined spaced (take i ns) ++ (spaced (get_or ns i 0) ++ numbers (drop (suc i) ns))
unfolding numbers joined
numbers_split ns i h =
    ap (λ l. joined spaced l ++ (newline ∷ [])) (split_at ns i 0 h)
    ∙ ap (λ l. l ++ (newline ∷ [])) (joined_append spaced (take i ns) (get_or ns i 0 ∷ drop (suc i) ns))
    ∙ simp append_assoc

front_more : (ns : List ℕ) (i : ℕ) → i < length ns → joined spaced (take (i + 1) ns) ≡ joined spaced (take i ns) ++ spaced (get_or ns i 0)
unfolding joined
front_more ns i h = rw (add-one i, take-suc ns i 0) (joined_append spaced (take i ns) (get_or ns i 0 ∷ []) ∙ simp append-nil)

-- The first i numbers are written.
pub record Numbering (s : List ℕ) (at : ℕ) (ns s' : List ℕ) (end i : ℕ) : Type 0 where
  pub room : RoomForPart s at (numbers ns)
  pub reached : i ≤ length ns
  pub wrote : WroteText s at (joined spaced (take i ns)) s' end

module _ (s : List ℕ) (at : ℕ) (ns : List ℕ) where
  pub numbering_starts : RoomForPart s at (numbers ns) → Numbering s at ns s at 0
  unfolding joined
  numbering_starts h = record { room = h; reached = omega arith; wrote = nothing_wrote s at (omega (arith, h.enough)) }

  module _ (s' : List ℕ) (end i : ℕ) (p : Numbering s at ns s' end i) where
    module _ (l : i < length ns) where
      pub numbering_room : RoomForPart s' end (spaced (get_or ns i 0))
      numbering_room = room_first s' end _ _ (room_rest s at _ s' end p.wrote _ (rw (numbers_split ns i l) at p.room))

      pub numbering_goes_on : (s'' : List ℕ) (end' : ℕ) → WroteText s' end (spaced (get_or ns i 0)) s'' end' → Numbering s at ns s'' end' (i + 1)
      numbering_goes_on s'' end' w = record {
        room = p.room;
        reached = omega arith;
        wrote = rw (front_more ns i l) (wrote_both s at _ s' end p.wrote _ s'' end' w);
      }

    -- One byte more: the newline.
    module _ (l : length ns ≤ i) where
      all_wrote : WroteText s at (joined spaced ns) s' end
      all_wrote = rw (take_all i ns l) at p.wrote

      pub last_room : (b : ℕ) → RoomForPart s' end (b ∷ [])
      unfolding numbers
      last_room b = record { enough = (room_rest s at _ s' end all_wrote (newline ∷ []) p.room).enough }

      pub newline_wrote : (s'' : List ℕ) (end' : ℕ) → WroteText s' end (newline ∷ []) s'' end' → WroteText s at (numbers ns) s'' end'
      unfolding numbers
      newline_wrote s'' end' w = wrote_both s at _ s' end all_wrote _ s'' end' w

pub ruleset numbering = (space_room, number_room, number_wrote, numbering_starts, numbering_room, numbering_goes_on, last_room, newline_wrote)
