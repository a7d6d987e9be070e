-- The digits of a number are those of its tens and that of its ones, there are few of them, and they are those that std's definition gives. Assumes nothing.
use Prim.Native.Nat.{ℕ, zero, suc, ◌+◌, ◌*◌, ◌/◌, ◌%◌, ◌^◌, ◌≤◌, ◌<◌}
use native.Mathlib.Nat.{pow-suc}
use native.Mathlib.Decide.{dec_lt}
use native.Mathlib.Omega.{arith}
use mathlib.Core.Path.{◌≡◌, refl, sym, ap, ap₂, ◌∙◌}
use mathlib.Core.List.{List, [], ◌∷◌, ◌++◌}
use borrow.Author.Tests.{lt-ltb, le-ltb}
use lib.ListN.{length, take, drop, take-append-drop, length-append}
use Rattle.std.specs.Fmt.{decimal as std_decimal}
use Rattle.std.proofs.lemmas.Fmt.{AppendsLastDigit, decimal_from_appends, length-decimal-le_succ}
use Rattle.records.specs.Overwritten.{overwritten}
use Rattle.listing_text.specs.Decimal.{digit, digits, decimal}
use Rattle.listing_text.specs.Parts.{RoomForPart, WroteText}

-- One digit, or one more than the tens have.
one_digit : (most n : ℕ) → n < 10 → digits (suc most) n ≡ digit n ∷ []
unfolding digits
one_digit most n h = rw (lt-ltb n 10 h, digits)

more_digits : (most n : ℕ) → 10 ≤ n → digits (suc most) n ≡ digits most (n / 10) ++ (digit (n % 10) ∷ [])
unfolding digits
more_digits most n h = rw (le-ltb n 10 h, digits)

-- More than enough is enough.
digits_same : (m k n : ℕ) → Dec (n < 10) → n < m → n < k → digits m n ≡ digits k n
digits_same zero k n d h l = absurd (omega arith)
digits_same (suc m) zero n d h l = absurd (omega arith)
digits_same (suc m) (suc k) n (yes f) h l = rw (one_digit m n f, one_digit k n f)
digits_same (suc m) (suc k) n (no f) h l =
    more_digits m n (omega arith) ∙ ap (λ ds. ds ++ (digit (n % 10) ∷ [])) (digits_same m k (n / 10) (dec_lt (n / 10) 10) (omega arith) (omega arith))
    ∙ sym (more_digits k n (omega arith))

pub decimal_few : (n : ℕ) → n < 10 → decimal n ≡ digit n ∷ []
unfolding decimal
decimal_few n h = one_digit n n h

pub decimal_more : (n : ℕ) → 10 ≤ n → decimal n ≡ decimal (n / 10) ++ (digit (n % 10) ∷ [])
unfolding decimal
decimal_more n h = more_digits n n h ∙ ap (λ ds. ds ++ (digit (n % 10) ∷ [])) (digits_same n (suc (n / 10)) (n / 10) (dec_lt (n / 10) 10) (omega arith) (omega arith))

-- A number below 10, 100, .. has 1, 2, .. digits at most.
pub decimal_short : (k n : ℕ) → n < 10 * 10 ^ k → length (decimal n) ≤ suc k
decimal_short zero n h = rw (decimal_few n (omega arith)) (omega arith)
decimal_short (suc k) n h = go (decimal_short k (n / 10)) (dec_lt n 10)
  where
    go : (n / 10 < 10 * 10 ^ k → length (decimal (n / 10)) ≤ suc k) → Dec (n < 10) → length (decimal n) ≤ suc (suc k)
    go f (yes l) = rw (decimal_few n l) (omega arith)
    go f (no l) = omega (arith, simp length-append at (ap length (decimal_more n (omega arith))), f (omega (arith, pow-suc 10 k)))

-- How many digits a number has: one, or one more than its tens have.
pub one_counted : (n : ℕ) → n < 10 → 1 ≡ length (decimal n)
one_counted n h = sym (ap length (decimal_few n h))

pub more_counted : (n : ℕ) → 10 ≤ n → 1 + length (decimal (n / 10)) ≡ length (decimal n)
more_counted n h = omega (arith, simp length-append at (ap length (decimal_more n h)))

-- They are std's.
appends : AppendsLastDigit digits
appends = record { one = one_digit; more = more_digits }

pub decimal_same : (n : ℕ) → n < 2 ^ 64 → decimal n ≡ std_decimal n
unfolding decimal
decimal_same n h = decimal_from_appends digits appends (suc n) n h (omega (arith, length-decimal-le_succ n h))

-- Where std's digits are written so that they end where this number's should, this number is written.
pub digits_wrote : (s s' : List ℕ) (at n start end : ℕ) → n < 2 ^ 64 → RoomForPart s at (decimal n) → end ≡ at + length (decimal n) → start + length (std_decimal n) ≡ end
    → drop start s' ≡ std_decimal n ++ drop end s → take start s' ≡ take start s → WroteText s at (decimal n) s' end
unfolding overwritten
digits_wrote s s' at n start end l h e f d t =
    let g : decimal n ≡ std_decimal n = decimal_same n l in
    let p : start ≡ at = omega (arith, ap length g) in
    record {
      enough = h.enough;
      bytes = sym (take-append-drop start s') ∙ ap₂ (λ x y. x ++ y) t d ∙ rw (p, e, g) refl;
      ends = e;
    }
