-- A copy of bytes, one by one: what is written after i of them. Assumes nothing.
use Prim.Native.Nat.{ℕ, ◌+◌, ◌≤◌, ◌<◌}
use native.Mathlib.Omega.{arith}
use native.Mathlib.Numerals.{add-one}
use mathlib.Core.Path.{◌≡◌, refl, sym, ap, ◌∙◌}
use mathlib.Core.List.{List, append_assoc}
use lib.ListN.{length, get_or, take, drop, set, length-set}
use lib.Seq.{length-take-le, take_all, paste, paste-zero, paste-suc}
use Rattle.records.specs.Overwritten.{overwritten}

pub record Copying (from s : List ℕ) (at i : ℕ) (s' : List ℕ) : Type 0 where
  pub within : i ≤ length from
  pub same : length s' ≡ length s
  pub bytes : s' ≡ overwritten s at (take i from)

module _ (from s : List ℕ) (at i : ℕ) where
  pasted : i ≤ length from → overwritten s at (take i from) ≡ paste s at from i
  unfolding overwritten
  pasted h = rw (length-take-le i from h) (sym (append_assoc (take at s) (take i from) (drop (at + i) s)))

  module _ (s' : List ℕ) (h : Copying from s at i s') where
    pub copied_room : i < length from → at + length from ≤ length s → at + i < length s'
    copied_room l b = omega (arith, h.same)

    pub copied_all : length from ≤ i → s' ≡ overwritten s at from
    copied_all l = h.bytes ∙ ap (overwritten s at) (take_all i from l)

pub copied_none : (from s : List ℕ) (at : ℕ) → Copying from s at 0 s
copied_none from s at = record { within = omega arith; same = refl; bytes = paste-zero s at from ∙ sym (pasted from s at 0 (omega arith)) }

pub copied_more : (from s : List ℕ) (at i : ℕ) (s' : List ℕ) → Copying from s at i s' → i < length from → at + length from ≤ length s → Copying from s at (i + 1) (set s' (at + i) (get_or from i 0))
copied_more from s at i s' h l b =
    let e : length (set s' (at + i) (get_or from i 0)) ≡ length s = length-set s' (at + i) (get_or from i 0) ∙ h.same in
    record {
      within = omega arith;
      same = e;
      bytes =
          ap (λ x. set x (at + i) (get_or from i 0)) (h.bytes ∙ pasted from s at i h.within)
          ∙ paste-suc s at from i 0 (omega arith) l
          ∙ ap (paste s at from) (sym (add-one i))
          ∙ sym (pasted from s at (i + 1) (omega arith));
    }

pub ruleset copying = (copied_none, copied_room, copied_all, copied_more)
