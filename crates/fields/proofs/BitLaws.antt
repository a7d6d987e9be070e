-- A bit that is 0 is set by adding its power of two, and no other bit changes. Assumes nothing.
use Prim.Native.Nat.{ℕ, ◌+◌, ◌-◌, ◌*◌, ◌/◌, ◌%◌, ◌^◌, ◌≤◌, ◌<◌}
use native.Mathlib.Omega.{arith}
use native.Mathlib.Nat.{add-div_right, add-mul-div_right, add-mul-mod_self_right}
use native.Mathlib.Decide.{dec_lt, ℕ_discrete}
use mathlib.Core.Bool.{true, false}
use mathlib.Core.List.{List}
use mathlib.Core.Path.{◌≡◌, sym, ap, ◌∙◌}
use lib.ListN.{length, get_or, set}
use lib.Seq.{get_or-set_same, get_or-set_other}
use lib.Pow.{pow_pos, pow-add, shr-shr, shl_exact}
use borrow.Author.Tests.{eq-eqb}
use mir.Val.{Fits}
use mir.Syntax.{w64}
use Rattle.rules.specs.Check.{is}
use Rattle.rules.proofs.Sums.{is_same, is_other}
use Rattle.fields.specs.BitSets.{member, Inserted}

-- The bits of w with bit j set.
module _ (w j : ℕ) where
  here : (w + 2 ^ j) / 2 ^ j ≡ w / 2 ^ j + 1
  here = add-div_right w (pow_pos j)

  -- Those below it: 2 ^ j is an even number of times 2 ^ i.
  below : (i : ℕ) → i < j → (w + 2 ^ j) / 2 ^ i % 2 ≡ w / 2 ^ i % 2
  below i h =
      let d = j - (i + 1) in
      let e : j ≡ (d + 1) + i = omega arith in
      let p : 2 ^ j ≡ 2 ^ d * 2 * 2 ^ i = ap (λ k. 2 ^ k) e ∙ pow-add 2 (d + 1) i ∙ ap (λ x. x * 2 ^ i) (pow-add 2 d 1) in
      rw (p, add-mul-div_right w (2 ^ d * 2) (pow_pos i)) (add-mul-mod_self_right (w / 2 ^ i) (2 ^ d) 2)

  module _ (free : w / 2 ^ j % 2 ≡ 0) where
    -- Those above it: nothing is carried.
    above : (i : ℕ) → j < i → (w + 2 ^ j) / 2 ^ i ≡ w / 2 ^ i
    above i h =
        let d = i - (j + 1) in
        let e : i ≡ j + (1 + d) = omega arith in
        let q : (w / 2 ^ j + 1) / 2 ≡ w / 2 ^ j / 2 = omega arith in
        ap (λ k. (w + 2 ^ j) / 2 ^ k) e ∙ sym (shr-shr (w + 2 ^ j) j (1 + d)) ∙ ap (λ x. x / 2 ^ (1 + d)) here
        ∙ sym (shr-shr (w / 2 ^ j + 1) 1 d) ∙ ap (λ x. x / 2 ^ d) q ∙ shr-shr (w / 2 ^ j) 1 d ∙ shr-shr w j (1 + d) ∙ ap (λ k. w / 2 ^ k) (sym e)

    other : (i : ℕ) → (j ≡ i → ⊥) → (w + 2 ^ j) / 2 ^ i % 2 ≡ w / 2 ^ i % 2
    other i h = elim (dec_lt i j) [
      | yes l ↦ below i l
      | no l ↦ ap (λ x. x % 2) (above i (omega arith))
    ]

    still_fits : j < 64 → w < 2 ^ 64 → w + 2 ^ j < 2 ^ 64
    still_fits h k = omega (arith, above 64 h)

-- What the code adds is that power.
bit_power : (k : ℕ) → 1 * 2 ^ (k % 64) % 18446744073709551616 ≡ 2 ^ (k % 64)
bit_power k = let h : 1 + k % 64 ≤ 64 = omega arith in let l : 1 < 2 = omega arith in shl_exact 1 (k % 64) 64 l h ∙ omega arith

module _ (s : List ℕ) (k : ℕ) where
  abbrev word : ℕ
  word = get_or s (k / 64) 0

  abbrev more : ℕ
  more = word + 1 * 2 ^ (k % 64) % 18446744073709551616

  pub is_there : word / 2 ^ (k % 64) % 2 ≡ 1 → Inserted s s k false
  unfolding member
  is_there h = record { told = rw h; made = λ e. let z : ◌≡◌ {A = ℕ} 0 1 = cc in absurd (omega arith) }

  module _ (h : word / 2 ^ (k % 64) % 2 ≡ 1 → ⊥) where
    free : word / 2 ^ (k % 64) % 2 ≡ 0
    free = omega arith

    was_free : member s k ≡ 0
    unfolding member
    was_free = free

    pub sum_fits : Fits w64 word → Fits w64 more
    sum_fits l = rw (bit_power k) (omega (arith, still_fits word (k % 64) free (omega arith) (omega arith)))

    module _ (l : k < 64 * length s) where
      read_back : get_or (set s (k / 64) more) (k / 64) 0 ≡ word + 2 ^ (k % 64)
      read_back = get_or-set_same s (k / 64) more 0 (omega arith) ∙ ap (λ x. word + x) (bit_power k)

      itself : member (set s (k / 64) more) k ≡ 1
      unfolding member
      itself = rw (read_back, here word (k % 64)) (omega (arith, free))

      another : (j : ℕ) → (k ≡ j → ⊥) → member (set s (k / 64) more) j ≡ member s j
      unfolding member
      another j n = elim (ℕ_discrete (j / 64) (k / 64)) [
        | yes e ↦ rw (e, read_back) (other word (k % 64) free (j % 64) (λ f. n (omega arith)))
        | no h ↦ rw (get_or-set_other s (k / 64) (j / 64) more 0 h)
      ]

      pub comes_in : Inserted s (set s (k / 64) more) k true
      comes_in = record { told = sym (eq-eqb (member s k) 0 was_free); made = λ e j. made j }
        where
          made : (j : ℕ) → member (set s (k / 64) more) j ≡ member s j + is k j
          made j = elim (ℕ_discrete k j) [
            | yes e ↦ rw (← e) (omega (arith, itself, was_free, is_same k))
            | no h ↦ omega (arith, another j h, is_other k j h)
          ]
