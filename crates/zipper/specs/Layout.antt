-- A term in one list of records, split at its focus: the records on the left of the hole from the front on, those on its right at the end, and free
-- records between, the gap. The focus is the last tree before the gap or the first after it.
use Rattle.std.specs.Prelude.{ℕ, ◌+◌, ◌≤◌, List, [], ◌∷◌, ◌++◌, ◌≡◌, length}
use Rattle.rules.specs.Terms.{Term, size}
use Rattle.rules.specs.Format.{Record, most_records}
use Rattle.rules.specs.Links.{linked}
use Rattle.contexts.specs.Contexts.{Frame, frame_kind, frame_fields, children_before, children_after, Context, left_size}
use Rattle.contexts.specs.Sides.{right_size, top_place}
use Rattle.terms.specs.Preorder.{preorder, There}
use Rattle.terms.specs.Children.{preorders}

-- A frame's record holds the place p of the frame around it in place of its measures, which change with every step in its hole.
abbrev pub chained : Frame → ℕ → Record
chained F p = linked (frame_kind F) (frame_fields F) p 0

-- The records on the left of the hole: the frames', and those of the children before the holes; and on its right.
unfoldable pub left_records : Context → List Record
left_records [] = []
left_records (F ∷ C) = left_records C ++ (chained F (top_place C) ∷ preorders (children_before F))

unfoldable pub right_records : Context → List Record
right_records [] = []
right_records (F ∷ C) = preorders (children_after F) ++ right_records C

-- Both sides stand around the hole: the left side ends at l, the right side is the records from r to slot 4,096, and the innermost frame's record is
-- at `top`.
pub record Around (rs : List Record) (C : Context) (l r top : ℕ) : Type 0 where
  pub left : There rs 0 (left_records C)
  pub right : There rs r (right_records C)
  pub start : l ≡ left_size C
  pub whole : r + right_size C ≡ 4096
  pub room : 4096 ≤ length rs
  pub frame : top ≡ top_place C

-- The focus t is the records from s to l, before the gap. "A term has at most 2,048 records", so that as many are free: no block that goes over the
-- gap comes to lie upon itself.
pub record FocusBefore (rs : List Record) (C : Context) (t : Term) (s l r top : ℕ) : Type 0 where
  pub around : Around rs C s r top
  pub focus : There rs s (preorder t)
  pub end : l ≡ s + size t
  pub gap : l + most_records ≤ r

-- The focus t is the records from r to e, after the gap.
pub record FocusAfter (rs : List Record) (C : Context) (t : Term) (l r e top : ℕ) : Type 0 where
  pub around : Around rs C l e top
  pub focus : There rs r (preorder t)
  pub end : e ≡ r + size t
  pub gap : l + most_records ≤ r
