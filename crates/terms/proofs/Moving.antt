-- `copy_flat`: the laws of its loop, which copies a record a turn. `moving` for search.
use Prim.Native.Nat.{ℕ, ◌+◌, ◌^◌, ◌≤◌, ◌<◌}
use native.Mathlib.Omega.{arith}
use mathlib.Core.Path.{◌≡◌, refl, sym, ap, ap₂, ◌∙◌}
use mathlib.Core.Logic.{⊎_elim, ◌⊎◌, inl, inr}
use mathlib.Core.List.{List, [], ◌∷◌, ◌++◌}
use lib.ListN.{length, get_or, set}
use mir.Syntax.{w64}
use mir.Val.{Fits}
use Rattle.rules.specs.Format.{Record, no_record}
use Rattle.records.specs.View.{records_in, RecordPut}
use Rattle.records.proofs.Records.{records_length}
use Rattle.terms.specs.Preorder.{puts, part, Apart}
use Rattle.terms.specs.Moves.{CanMove, Moved}
use Rattle.terms.proofs.Puts.{length_puts, puts_append, puts_other, length_part, part_add, part_cons}

-- Parts that have no record in common can be copied either way.
pub apart_moves : (src dst n : ℕ) → Apart src dst n → (src + n ≤ dst) ⊎ (dst ≤ src)
apart_moves src dst n = ⊎_elim (λ p. inl p) (λ p. inr (omega arith))

-- The first i of the n records are copied.
pub record Copying (rs rs' : List Record) (src dst n i : ℕ) : Type 0 where
  pub is : rs' ≡ puts rs dst (part rs src i)
  pub most : i ≤ n

module _ (rs : List Record) (src dst n : ℕ) (h : CanMove rs src dst n) where
  pub move_starts : Copying rs rs src dst n 0
  unfolding puts
  move_starts = record { is = refl; most = omega arith }

  module _ (rs' : List Record) (i : ℕ) (m : Copying rs rs' src dst n i) where
    same_length : length rs' ≡ length rs
    same_length = ap length m.is ∙ length_puts rs dst (part rs src i)

    pub move_reads : i < n → src + i < length rs'
    move_reads l = omega (arith, same_length, h.from)

    pub move_writes : i < n → dst + i < length rs'
    move_writes l = omega (arith, same_length, h.to)

    -- What is read is still what stood there first.
    still : i < n → get_or rs' (src + i) no_record ≡ get_or rs (src + i) no_record
    still l =
        let c = length_part rs src i (omega (arith, h.from)) in
        ap (λ x. get_or x (src + i) no_record) m.is ∙ puts_other rs dst (part rs src i) (src + i) (⊎_elim (λ p. inl (omega arith)) (λ p. inr (omega arith)) h.apart)

    pub move_ends : n ≤ i → Moved rs rs' src dst n
    move_ends l = let e : i ≡ n = omega (arith, m.most) in record { is = rw e at m.is }

module _ (s : List ℕ) (src dst n : ℕ) (h : CanMove (records_in s) src dst n) (s' : List ℕ) (i : ℕ) (m : Copying (records_in s) (records_in s') src dst n i) (l : i < n) where
  pub move_goes_on : (s'' : List ℕ) → RecordPut s' (dst + i) (get_or (records_in s') (src + i) no_record) s'' → Copying (records_in s) (records_in s'') src dst n (i + 1)
  unfolding puts
  move_goes_on s'' p =
      let c = length_part (records_in s) src i (omega (arith, h.from)) in
      let x = get_or (records_in s) (src + i) no_record in
      let one : part (records_in s) (src + i) 1 ≡ x ∷ [] = part_cons (records_in s) (src + i) 0 (omega (arith, h.from)) in
      record {
        is = p.things ∙ ap₂ (λ rs y. set rs (dst + i) y) m.is (still (records_in s) src dst n h (records_in s') i m l)
            ∙ ap (λ k. set (puts (records_in s) dst (part (records_in s) src i)) (dst + k) x) (sym c)
            ∙ sym (puts_append (records_in s) dst (part (records_in s) src i) (x ∷ []))
            ∙ ap (puts (records_in s) dst) (ap (◌++◌ (part (records_in s) src i)) (sym one) ∙ sym (part_add (records_in s) src i 1));
        most = omega arith;
      }

  module _ (b : length s < 2 ^ 64) where
    pub move_read_fits : Fits w64 (src + i)
    move_read_fits = omega (arith, h.from, records_length s)

    pub move_write_fits : Fits w64 (dst + i)
    move_write_fits = omega (arith, h.to, records_length s)

pub ruleset moving = (move_starts, move_reads, move_writes, move_goes_on, move_ends, move_read_fits, move_write_fits)
