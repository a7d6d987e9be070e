-- Records that are written one after another: what is read then, and what stays; and parts of a list of records.
use Prim.Native.Nat.{ℕ, zero, suc, ◌+◌, ◌-◌, ◌≤◌, ◌<◌}
use native.Mathlib.Omega.{arith}
use native.Mathlib.Nat.{add-zero}
use native.Mathlib.Numerals.{add-one}
use mathlib.Core.Path.{◌≡◌, refl, sym, ap, ◌∙◌}
use mathlib.Core.Logic.{⊎_elim, ◌⊎◌, inl, inr}
use mathlib.Core.List.{List, [], ◌∷◌, ◌++◌}
use lib.ListN.{length, get_or, set, take, drop, length-set, length-append, length-drop}
use lib.Seq.{get_or-set_same, get_or-set_other, set-get_or, set-set, set_comm, drop-cons, take-add, take_at, drop_at, drop-drop, ext_get_or, get_or-take, get_or-drop, length-take-le}
use Rattle.rules.specs.Format.{Record, no_record}
use Rattle.terms.specs.Preorder.{puts, part}

pub length_puts : (rs : List Record) (i : ℕ) (vs : List Record) → length (puts rs i vs) ≡ length rs
unfolding puts
length_puts rs i [] = refl
length_puts rs i (c ∷ vs) = length_puts (set rs i c) (i + 1) vs ∙ length-set rs i c

pub puts_append : (rs : List Record) (i : ℕ) (xs ys : List Record) → puts rs i (xs ++ ys) ≡ puts (puts rs i xs) (i + length xs) ys
unfolding puts
puts_append rs i [] ys = rw (add-zero i)
puts_append rs i (x ∷ xs) ys = puts_append (set rs i x) (i + 1) xs ys ∙ ap (λ k. puts (puts (set rs i x) (i + 1) xs) k ys) e
  where
    e : i + 1 + length xs ≡ i + suc (length xs)
    e = omega arith

-- A record before them may be written first or last; where it is written twice, the second writing counts.
pub set_puts : (rs : List Record) (i : ℕ) (y : Record) (j : ℕ) (vs : List Record) → i < j → set (puts rs j vs) i y ≡ puts (set rs i y) j vs
unfolding puts
set_puts rs i y j [] l = refl
set_puts rs i y j (v ∷ vs) l = set_puts (set rs j v) i y (j + 1) vs (omega arith) ∙ ap (λ x. puts x (j + 1) vs) (set_comm rs j i v y (λ e. omega arith))

pub put_before : (rs : List Record) (i : ℕ) (y : Record) (vs : List Record) → set (puts rs (i + 1) vs) i y ≡ puts rs i (y ∷ vs)
unfolding puts
put_before rs i y vs = set_puts rs i y (i + 1) vs (omega arith)

pub rewritten : (rs : List Record) (i : ℕ) (x y : Record) (vs : List Record) → set (puts (set rs i x) (i + 1) vs) i y ≡ puts rs i (y ∷ vs)
unfolding puts
rewritten rs i x y vs = put_before (set rs i x) i y vs ∙ ap (λ l. puts l (i + 1) vs) (set-set rs i x y)

pub puts_other : (rs : List Record) (i : ℕ) (vs : List Record) (j : ℕ) → (j < i) ⊎ (i + length vs ≤ j) → get_or (puts rs i vs) j no_record ≡ get_or rs j no_record
unfolding puts
puts_other rs i [] j h = refl
puts_other rs i (c ∷ vs) j h =
    puts_other (set rs i c) (i + 1) vs j (⊎_elim (λ l. inl (omega arith)) (λ l. inr (omega arith)) h)
    ∙ get_or-set_other rs i j c no_record (⊎_elim (λ l. omega arith) (λ l. omega arith) h)

pub puts_same : (rs : List Record) (i : ℕ) (vs : List Record) (k : ℕ) → k < length vs → i + length vs ≤ length rs → get_or (puts rs i vs) (i + k) no_record ≡ get_or vs k no_record
unfolding puts
puts_same rs i [] k l h = absurd (omega arith)
puts_same rs i (c ∷ vs) zero l h =
    puts_other (set rs i c) (i + 1) vs (i + 0) (inl (omega arith)) ∙ (rw (add-zero i) (get_or-set_same rs i c no_record (omega arith)))
puts_same rs i (c ∷ vs) (suc k) l h =
    ap (λ x. get_or (puts (set rs i c) (i + 1) vs) x no_record) e ∙ puts_same (set rs i c) (i + 1) vs k (omega arith) (omega (arith, length-set rs i c))
  where
    e : i + suc k ≡ i + 1 + k
    e = omega arith

pub length_part : (rs : List Record) (i m : ℕ) → i + m ≤ length rs → length (part rs i m) ≡ m
length_part rs i m h = length-take-le m (drop i rs) (omega (arith, length-drop i rs))

pub part_add : (rs : List Record) (i m n : ℕ) → part rs i (m + n) ≡ part rs i m ++ part rs (i + m) n
part_add rs i m n = take-add m n (drop i rs) ∙ ap (λ l. take m (drop i rs) ++ take n l) (drop-drop m i rs)

pub part_cons : (rs : List Record) (i m : ℕ) → i < length rs → part rs i (1 + m) ≡ get_or rs i no_record ∷ part rs (i + 1) m
part_cons rs i m h = ap (λ k. take k (drop i rs)) (q m) ∙ (rw (drop-cons rs i no_record h, add-one i))
  where
    q : (m : ℕ) → 1 + m ≡ suc m
    q m = omega arith

-- A part that no store touches stays.
pub part_puts : (rs : List Record) (d : ℕ) (vs : List Record) (i m : ℕ) → i + m ≤ length rs → (i + m ≤ d) ⊎ (d + length vs ≤ i) → part (puts rs d vs) i m ≡ part rs i m
part_puts rs d vs i m h a =
    ext_get_or no_record _ _ (len ∙ sym (length_part rs i m h))
    (λ j l. get_or-take m (drop i (puts rs d vs)) j no_record (omega (arith, len)) ∙ get_or-drop i (puts rs d vs) j no_record
    ∙ puts_other rs d vs (i + j) (⊎_elim (λ x. inl (omega (arith, len))) (λ x. inr (omega arith)) a)
    ∙ sym (get_or-take m (drop i rs) j no_record (omega (arith, len)) ∙ get_or-drop i rs j no_record))
  where
    len : length (part (puts rs d vs) i m) ≡ m
    len = length_part (puts rs d vs) i m (omega (arith, length_puts rs d vs))

-- Records that are written where they stand change nothing.
pub puts_part : (rs : List Record) (i m : ℕ) → i + m ≤ length rs → puts rs i (part rs i m) ≡ rs
unfolding puts
puts_part rs i zero h = refl
puts_part rs i (suc m) h =
    ap (puts rs i) (ap (part rs i) (q m) ∙ part_cons rs i m (omega arith)) ∙ ap (λ l. puts l (i + 1) (part rs (i + 1) m)) (set-get_or rs i no_record) ∙ puts_part rs (i + 1) m (omega arith)
  where
    q : (m : ℕ) → suc m ≡ 1 + m
    q m = omega arith

-- The parts of a part.
pub part_split : (rs : List Record) (i n : ℕ) (xs ys : List Record) → i + n ≤ length rs → part rs i n ≡ xs ++ ys → (part rs i (length xs) ≡ xs) × (part rs (i + length xs) (n - length xs) ≡ ys)
part_split rs i n xs ys h e = (sym (first), second)
  where
    len : n ≡ length xs + length ys
    len = sym (length_part rs i n h) ∙ ap length e ∙ length-append xs ys

    whole : part rs i (length xs) ++ part rs (i + length xs) (length ys) ≡ xs ++ ys
    whole = sym (part_add rs i (length xs) (length ys)) ∙ ap (part rs i) (sym len) ∙ e

    l : length (part rs i (length xs)) ≡ length xs
    l = length_part rs i (length xs) (omega (arith, len))

    first : xs ≡ part rs i (length xs)
    first = sym (take_at xs ys (length xs) refl) ∙ ap (take (length xs)) (sym whole) ∙ take_at (part rs i (length xs)) (part rs (i + length xs) (length ys)) (length xs) l

    m : n - length xs ≡ length ys
    m = omega (arith, len)

    second : part rs (i + length xs) (n - length xs) ≡ ys
    second = ap (part rs (i + length xs)) m ∙ sym (drop_at (part rs i (length xs)) (part rs (i + length xs) (length ys)) (length xs) l) ∙ ap (drop (length xs)) whole ∙ drop_at xs ys (length xs) refl
