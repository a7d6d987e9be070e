-- Parts that are written one after another are one part: for the proofs of the code. Assumes nothing.
use Prim.Native.Nat.{ℕ, ◌+◌, ◌≤◌}
use native.Mathlib.Nat.{add-zero}
use native.Mathlib.Omega.{arith}
use mathlib.Core.Path.{◌≡◌, refl, sym, ap, ap₂, ◌∙◌}
use mathlib.Core.List.{List, [], ◌++◌}
use lib.ListN.{length, take, take-append-drop, length-append}
use lib.Seq.{drop-drop}
use borrow.Rule.Slice.PartMut.{put_mid}
use Rattle.records.specs.Overwritten.{overwritten}
use Rattle.records.proofs.Overwriting.{overwritten_length, overwritten_twice}
use Rattle.listing_text.specs.Parts.{RoomForPart, WroteText}

-- Nothing.
pub nothing_wrote : (s : List ℕ) (at : ℕ) → at ≤ length s → WroteText s at [] s at
unfolding overwritten
nothing_wrote s at h = record { enough = omega arith; bytes = rw (add-zero at) (sym (take-append-drop at s)); ends = omega arith }

-- Bytes that are copied into the place of as many others.
pub bytes_wrote : (s : List ℕ) (at : ℕ) (vs ys : List ℕ) (k : ℕ) → RoomForPart s at vs → ys ≡ vs → k ≡ length vs → WroteText s at vs (put_mid at k s ys) (at + length vs)
unfolding overwritten
bytes_wrote s at vs ys k h e l = record {
  enough = h.enough;
  bytes = ap₂ (λ n zs. put_mid at n s zs) l e ∙ ap (λ x. take at s ++ (vs ++ x)) (drop-drop (length vs) at s);
  ends = refl;
}

-- A part, and another behind it.
pub room_first : (s : List ℕ) (at : ℕ) (vs ws : List ℕ) → RoomForPart s at (vs ++ ws) → RoomForPart s at vs
room_first s at vs ws h = record { enough = omega (arith, h.enough, length-append vs ws) }

module _ (s : List ℕ) (at : ℕ) (vs s' : List ℕ) (e : ℕ) (w : WroteText s at vs s' e) where
  pub wrote_length : length s' ≡ length s
  wrote_length = ap length w.bytes ∙ overwritten_length s at vs w.enough

  pub room_rest : (ws : List ℕ) → RoomForPart s at (vs ++ ws) → RoomForPart s' e ws
  room_rest ws h = record { enough = omega (arith, h.enough, length-append vs ws, wrote_length, w.ends) }

  pub wrote_both : (ws s'' : List ℕ) (e' : ℕ) → WroteText s' e ws s'' e' → WroteText s at (vs ++ ws) s'' e'
  wrote_both ws s'' e' v = record {
    enough = omega (arith, v.enough, length-append vs ws, wrote_length, w.ends);
    bytes = v.bytes ∙ ap₂ (λ r k. overwritten r k ws) w.bytes w.ends ∙ overwritten_twice s at vs w.enough ws;
    ends = omega (arith, v.ends, w.ends, length-append vs ws);
  }
