-- Records that stand at a place of a list: parts of them, what is read there, and what stays and comes when others are written.
use Prim.Native.Nat.{ℕ, ◌+◌, ◌-◌, ◌≤◌, ◌<◌}
use native.Mathlib.Omega.{arith}
use native.Mathlib.Nat.{add-zero}
use mathlib.Core.List.{List, [], ◌∷◌, ◌++◌}
use mathlib.Core.Logic.{◌⊎◌, inl, inr, ⊎_elim}
use mathlib.Core.Path.{◌≡◌, sym, ap, ◌∙◌}
use lib.ListN.{length, get_or, set, drop, length-append}
use lib.Seq.{get_or-take, get_or-drop, ext_get_or}
use Rattle.rules.specs.Format.{Record, no_record}
use Rattle.terms.specs.Preorder.{puts, part, There}
use Rattle.terms.proofs.Puts.{length_puts, puts_same, length_part, part_add, part_split, part_puts}

module _ (rs : List Record) (i : ℕ) where
  pub there_both : (xs ys : List Record) → There rs i xs → There rs (i + length xs) ys → There rs i (xs ++ ys)
  there_both xs ys p q = record {
    within = omega (arith, length-append xs ys, q.within);
    is = ap (part rs i) (length-append xs ys) ∙ part_add rs i (length xs) (length ys) ∙ (rw (p.is, q.is));
  }

  -- The parts.
  module _ (xs ys : List Record) (h : There rs i (xs ++ ys)) where
    pub there_first : There rs i xs
    there_first = record { within = omega (arith, length-append xs ys, h.within); is = (part_split rs i (length (xs ++ ys)) xs ys h.within h.is).0 }

    pub there_rest : There rs (i + length xs) ys
    there_rest =
        let e : length (xs ++ ys) - length xs ≡ length ys = omega (arith, length-append xs ys) in
        record { within = omega (arith, length-append xs ys, h.within); is = rw e at (part_split rs i (length (xs ++ ys)) xs ys h.within h.is).1 }

  -- What is read.
  pub there_read : (xs : List Record) → There rs i xs → (j : ℕ) → j < length xs → get_or rs (i + j) no_record ≡ get_or xs j no_record
  there_read xs h j l = sym (get_or-drop i rs j no_record) ∙ sym (get_or-take (length xs) (drop i rs) j no_record l) ∙ ap (λ ys. get_or ys j no_record) h.is

  pub there_head : (x : Record) (xs : List Record) → There rs i (x ∷ xs) → (i < length rs) × (get_or rs i no_record ≡ x)
  there_head x xs h = (omega (arith, h.within), ap (λ k. get_or rs k no_record) (sym (add-zero i)) ∙ there_read (x ∷ xs) h 0 (omega arith))

-- By elements.
pub there_each : (rs : List Record) (i : ℕ) (xs : List Record) → i + length xs ≤ length rs → ((j : ℕ) → j < length xs → get_or rs (i + j) no_record ≡ get_or xs j no_record) → There rs i xs
there_each rs i xs b h =
    let l = length_part rs i (length xs) b in
    record {
      within = b;
      is = ext_get_or no_record _ _ l (λ j p. get_or-take (length xs) (drop i rs) j no_record (omega arith) ∙ get_or-drop i rs j no_record ∙ h j (omega arith));
    }

-- What is written, and what stays.
pub there_put : (rs : List Record) (i : ℕ) (xs : List Record) → i + length xs ≤ length rs → There (puts rs i xs) i xs
there_put rs i xs b = there_each (puts rs i xs) i xs (omega (arith, length_puts rs i xs)) (λ j l. puts_same rs i xs j l b)

pub there_stays : (rs : List Record) (d : ℕ) (vs : List Record) (i : ℕ) (xs : List Record) → (i + length xs ≤ d) ⊎ (d + length vs ≤ i) → There rs i xs → There (puts rs d vs) i xs
there_stays rs d vs i xs a h = record { within = omega (arith, length_puts rs d vs, h.within); is = part_puts rs d vs i (length xs) h.within a ∙ h.is }

pub there_set : (rs : List Record) (i : ℕ) (x : Record) → i < length rs → There (set rs i x) i (x ∷ [])
unfolding puts
there_set rs i x b = there_put rs i (x ∷ []) (omega arith)

pub there_set_stays : (rs : List Record) (d : ℕ) (v : Record) (i : ℕ) (xs : List Record) → (i + length xs ≤ d) ⊎ (d < i) → There rs i xs → There (set rs d v) i xs
unfolding puts
there_set_stays rs d v i xs a h = there_stays rs d (v ∷ []) i xs (⊎_elim (λ x. inl x) (λ x. inr (omega arith)) a) h
