-- The laws of a view, for things of any form: its length, what it reads, what a write does to it, and what it is as bytes.
-- Each is proved once here; Records and Entries state them of the two forms. Assumes nothing.
use Prim.Native.Nat.{ℕ, zero, suc, ◌+◌, ◌*◌, ◌/◌, ◌≤◌, ◌<◌}
use native.Mathlib.Nat.{mul-zero, mul-suc, le-div_iff_mul-le, mul-div_right, mul-le-mul_left, zero-add}
use native.Mathlib.Omega.{arith}
use native.Mathlib.Decide.{ℕ_discrete, dec_lt}
use mathlib.Core.Path.{◌≡◌, sym, ap, ap₂, ◌∙◌}
use mathlib.Core.Logic.{◌≢◌}
use mathlib.Core.List.{List, ◌++◌}
use lib.ListN.{length, get_or, take, drop, set, length-set, length-drop}
use lib.Seq.{length-take-le, take_all, take-add, drop-drop, ext_get_or, get_or-set_same, get_or-set_other}
use Rattle.rules.specs.Lists.{All, listed, joined}
use Rattle.rules.proofs.General.{length_listed}
use Rattle.records.specs.Overwritten.{overwritten}
use Rattle.records.specs.View.{viewed}
use Rattle.records.proofs.Lists.{part_of_front, agree_beyond, get_d_listed, take_listed, all_listed, listed_same}
use Rattle.records.proofs.Overwriting.{overwritten_length, overwritten_before, overwritten_from, overwritten_after}
use Rattle.records.proofs.Form.{AreBytes, bytes_drop, Form}

module _ {A : Type 0} {of : List ℕ → A} {to : A → List ℕ} {width : ℕ} {Fits : A → Type 0} (form : Form of to width Fits) where
  -- How many things there are, and which places have one.
  pub viewed_length : (s : List ℕ) → length (viewed of width s) ≡ length s / width
  unfolding viewed
  viewed_length s = length_listed _ 0 (length s / width)

  pub viewed_room : (s : List ℕ) (i : ℕ) → i < length (viewed of width s) → width * i + width ≤ length s
  viewed_room s i h = omega (arith, (le-div_iff_mul-le form.wide).0 (rw viewed_length at h))

  -- What is read.
  pub viewed_read : (s : List ℕ) (i : ℕ) (d : A) → i < length (viewed of width s) → get_or (viewed of width s) i d ≡ of (drop (width * i) s)
  unfolding viewed
  viewed_read s i d h =
      get_d_listed _ 0 (length s / width) i d (omega (arith, viewed_length s)) ∙ ap (λ n. of (drop (width * n) s)) (zero-add i)

  pub viewed_fit : (s : List ℕ) → AreBytes s → All Fits (viewed of width s)
  unfolding viewed
  viewed_fit s b = all_listed _ Fits (λ i. form.fits (drop (width * i) s) (bytes_drop s (width * i) b)) 0 (length s / width)

  -- A thing within a front of the bytes is read there as in the whole.
  read_in_front : (s : List ℕ) (at n : ℕ) → at + width ≤ n → of (drop at (take n s)) ≡ of (drop at s)
  read_in_front s at n h = sym (form.front _) ∙ ap of (part_of_front at width n s h) ∙ form.front _

  -- Thing i ends where thing n begins, or before.
  place_below : (i n : ℕ) → i < n → width * i + width ≤ width * n
  place_below i n h = omega (arith, mul-le-mul_left width h)

  count_within : (s : List ℕ) (n : ℕ) → width * n ≤ length s → n ≤ length s / width
  count_within s n h = (le-div_iff_mul-le form.wide).1 (omega arith)

  -- The view of a front of the bytes, and a front of the view: both list the first n things.
  viewed_of_front : (s : List ℕ) (n : ℕ) → width * n ≤ length s → viewed of width (take (width * n) s) ≡ listed (λ i. of (drop (width * i) s)) 0 n
  unfolding viewed
  viewed_of_front s n h =
      let count : length (take (width * n) s) / width ≡ n = ap (λ m. m / width) (length-take-le (width * n) s h) ∙ mul-div_right n form.wide in
      rw count (listed_same _ _ 0 n (λ i l. read_in_front s (width * i) (width * n) (place_below i n (omega arith))))

  front_of_viewed : (s : List ℕ) (n : ℕ) → width * n ≤ length s → take n (viewed of width s) ≡ listed (λ i. of (drop (width * i) s)) 0 n
  unfolding viewed
  front_of_viewed s n h = take_listed _ 0 n (length s / width) (count_within s n h)

  pub viewed_front : (s : List ℕ) (n : ℕ) → width * n ≤ length s → viewed of width (take (width * n) s) ≡ take n (viewed of width s)
  viewed_front s n h = viewed_of_front s n h ∙ sym (front_of_viewed s n h)

  -- Things that are listed from a place of the bytes on are the view of that part.
  pub viewed_part : (s : List ℕ) (base n : ℕ) → base + width * n ≤ length s
      → listed (λ i. of (drop (base + width * i) s)) 0 n ≡ viewed of width (take (width * n) (drop base s))
  viewed_part s base n h =
      sym (viewed_of_front (drop base s) n (omega (arith, length-drop base s)) ∙ listed_same _ _ 0 n (λ i l. ap of (drop-drop (width * i) base s)))

  -- What a write does.
  module _ (s : List ℕ) (i : ℕ) (x : A) (h : i < length (viewed of width s)) where
    abbrev s' : List ℕ
    s' = overwritten s (width * i) (to x)

    write_room : width * i + length (to x) ≤ length s
    write_room = omega (arith, viewed_room s i h, form.long x)

    write_length : length (viewed of width s') ≡ length (viewed of width s)
    write_length = rw (viewed_length s', viewed_length s, overwritten_length s (width * i) (to x) write_room)

    write_same : Fits x → of (drop (width * i) s') ≡ x
    write_same f = ap of (overwritten_from s (width * i) (to x) write_room) ∙ form.back x _ f

    write_other : (j : ℕ) → j ≢ i → Dec (j < i) → of (drop (width * j) s') ≡ of (drop (width * j) s)
    write_other j n (yes l) =
        sym (read_in_front s' (width * j) (width * i) (place_below j i l))
        ∙ ap (λ r. of (drop (width * j) r)) (overwritten_before s (width * i) (to x) write_room)
        ∙ read_in_front s (width * j) (width * i) (place_below j i l)
    write_other j n (no m) =
        ap of (agree_beyond (width * i + length (to x)) (width * j) s' s (omega (arith, place_below i j (omega arith), form.long x)) (overwritten_after s (width * i) (to x) write_room))

    write_each : Fits x → (j : ℕ) → j < length (viewed of width s) → Dec (j ≡ i) → of (drop (width * j) s') ≡ get_or (set (viewed of width s) i x) j x
    write_each f j l (yes e) = rw e (write_same f ∙ sym (get_or-set_same (viewed of width s) i x x h))
    write_each f j l (no n) = write_other j n (dec_lt j i) ∙ sym (get_or-set_other (viewed of width s) i j x x n ∙ viewed_read s j x l)

    pub viewed_write : Fits x → viewed of width s' ≡ set (viewed of width s) i x
    viewed_write f =
        ext_get_or x _ _ (write_length ∙ sym (length-set (viewed of width s) i x))
        (λ j l. viewed_read s' j x l ∙ write_each f j (omega (arith, write_length)) (ℕ_discrete j i))

  -- The bytes are the things, written one after another.
  joined_listed : (s : List ℕ) → AreBytes s → (from n : ℕ) → width * from + width * n ≤ length s
      → joined to (listed (λ i. of (drop (width * i) s)) from n) ≡ take (width * n) (drop (width * from) s)
  unfolding listed joined
  joined_listed s b from zero h = rw mul-zero
  joined_listed s b from (suc n) h =
      let next : drop (width * suc from) s ≡ drop width (drop (width * from) s) = rw (mul-suc, drop-drop) in
      let more : width + width * n ≡ width * suc n = omega arith in
      ap₂ ◌++◌ (form.forth (drop (width * from) s) (bytes_drop s (width * from) b) (omega (arith, length-drop (width * from) s)))
      (joined_listed s b (suc from) n (omega arith) ∙ ap (take (width * n)) next)
      ∙ rw more at (sym (take-add width (width * n) (drop (width * from) s)))

  pub viewed_joined_front : (s : List ℕ) (n : ℕ) → AreBytes s → width * n ≤ length s → take (width * n) s ≡ joined to (take n (viewed of width s))
  viewed_joined_front s n b h =
      let none : width * 0 ≡ 0 = mul-zero width in
      sym (rw none at (ap (joined to) (front_of_viewed s n h) ∙ joined_listed s b 0 n (omega arith)))

  pub viewed_joined : (s : List ℕ) (n : ℕ) → AreBytes s → length s ≡ width * n → joined to (viewed of width s) ≡ s
  viewed_joined s n b h =
      let count : length (viewed of width s) ≤ n = omega (arith, viewed_length s ∙ ap (λ m. m / width) h ∙ mul-div_right n form.wide) in
      ap (joined to) (sym (take_all n (viewed of width s) count))
      ∙ sym (viewed_joined_front s n b (omega arith))
      ∙ take_all (width * n) s (omega arith)
