-- What stands in a list of bytes after a part of it was overwritten: the laws of `overwritten`. Assumes nothing.
use Prim.Native.Nat.{ℕ, ◌+◌, ◌≤◌, ◌<◌}
use native.Mathlib.Numerals.{add-one}
use native.Mathlib.Omega.{arith}
use mathlib.Core.Path.{◌≡◌, sym, ap, ap₂, ◌∙◌}
use mathlib.Core.List.{List, [], ◌∷◌, ◌++◌, append_assoc}
use lib.ListN.{length, take, drop, set, length-append, length-drop}
use lib.Seq.{length-take-le, take_at, drop_at, take-append_seam, drop-append_seam, take-add, drop-drop, sets-eq}
use Rattle.records.specs.Overwritten.{overwritten}

module _ (s : List ℕ) (at : ℕ) (vs : List ℕ) (room : at + length vs ≤ length s) where
  -- What is kept in front is as long as it should be.
  front_length : length (take at s) ≡ at
  front_length = length-take-le at s (omega arith)

  pub overwritten_length : length (overwritten s at vs) ≡ length s
  unfolding overwritten
  overwritten_length = simp (length-append, length-drop) (omega (arith, front_length))

  -- The bytes before the part, from it on, and after it.
  pub overwritten_before : take at (overwritten s at vs) ≡ take at s
  unfolding overwritten
  overwritten_before = take_at (take at s) _ at front_length

  pub overwritten_from : drop at (overwritten s at vs) ≡ vs ++ drop (at + length vs) s
  unfolding overwritten
  overwritten_from = drop_at (take at s) _ at front_length

  pub overwritten_after : drop (at + length vs) (overwritten s at vs) ≡ drop (at + length vs) s
  overwritten_after = sym (drop-drop (length vs) at _) ∙ ap (drop (length vs)) overwritten_from ∙ drop-append_seam vs _

  overwritten_through : take (at + length vs) (overwritten s at vs) ≡ take at s ++ vs
  overwritten_through = take-add at (length vs) _ ∙ rw (overwritten_before, overwritten_from, take-append_seam)

  -- Two parts, one after the other, are one part.
  pub overwritten_twice : (ws : List ℕ) → overwritten (overwritten s at vs) (at + length vs) ws ≡ overwritten s at (vs ++ ws)
  unfolding overwritten
  overwritten_twice ws =
      let ends : at + length vs + length ws ≡ at + length (vs ++ ws) = omega (arith, length-append vs ws) in
      let far : drop (at + length vs + length ws) (overwritten s at vs) ≡ drop (at + length (vs ++ ws)) s =
      sym (drop-drop (length ws) (at + length vs) _) ∙ ap (drop (length ws)) overwritten_after ∙ drop-drop (length ws) (at + length vs) s ∙ ap (λ n. drop n s) ends in
      ap₂ (λ l r. l ++ (ws ++ r)) overwritten_through far ∙ simp append_assoc

-- Two single bytes.
pub overwritten_pair : (s : List ℕ) (at a b : ℕ) → at + 1 < length s → set (set s at a) (at + 1) b ≡ overwritten s at (a ∷ b ∷ [])
unfolding overwritten
overwritten_pair s at a b h = rw (add-one at) (sets-eq (a ∷ b ∷ []) s at (omega arith) ∙ simp append_assoc)
