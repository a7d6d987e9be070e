-- Types that are needed one after another: `needed` by its own calls, numbers that stay once they are given, and an array that holds the number of each
-- type. By way of types in full, of `order`. Assumes nothing.
use Prim.Native.Nat.{ℕ, zero, suc, ◌+◌, ◌≤◌, ◌<◌}
use native.Mathlib.Omega.{arith}
use native.Mathlib.Decide.{dec_lt, ℕ_discrete}
use mathlib.Core.List.{List, [], ◌∷◌, ◌++◌, map}
use mathlib.Core.Path.{◌≡◌, refl, ap, sym, ◌∙◌, subst}
use lib.Dec.{T, T_not, eqb, eqb→eq}
use lib.ListN.{length, set, replicate, length-set, length-replicate, get_or-replicate}
use lib.Seq.{get_or-set_same, get_or-set_other}
use Rattle.rules.specs.Lists.{All}
use Rattle.rules.specs.Types.{Entry, Table, entry, part_a, part_b}
use Rattle.rules.proofs.General.{tested}
use Rattle.order.specs.FullTypes.{NamesType, GoodEntries, in_full}
use Rattle.order.specs.Numbers.{equality}
use Rattle.order.specs.Order.{new_number, need, needed, need_all}
use Rattle.order.specs.OrderInFull.{full_number, need_all_full, In, Listed}
use Rattle.numbering.specs.Numbering.{Seen, Numbering}
use Rattle.order.proofs.Numbers.{number_none, number_here, number_other}
use Rattle.order.proofs.Full.{Kinded, a_nat, a_fn, a_code, kind_of_lem, whole_lem}
use Rattle.order.proofs.InFull.{need_none, same_number, need_full_lem, need_all_full_lem}
use Rattle.order.proofs.Listed.{GrowsAll, grows, grows_all}
use Rattle.order.proofs.Few.{few}
use Rattle.order.proofs.Used.{wholes, different}

-- Needs, one list after another.
pub need_append : (types : Table) (xs ys seen : List ℕ) → need_all types (xs ++ ys) seen ≡ need_all types ys (need_all types xs seen)
unfolding need_all
need_append types [] ys seen = refl
need_append types (x ∷ xs) ys seen = need_append types xs ys _

parts_lower : (x : ℕ) (y : Entry) → 1 ≤ x → Kinded x y → (y.a < x) × (y.b < x)
parts_lower x y h a_nat = (h, h)
parts_lower x y h (a_fn p q _ lp _ lq) = (lp, lq)
parts_lower x y h (a_code c _ lc) = (lc, h)

module _ (types : Table) (good : GoodEntries types) where
  pub lower : (x : ℕ) → NamesType types x → (part_a types x < x) × (part_b types x < x)
  lower x h = parts_lower x (entry types x) h.0 (kind_of_lem types good x h)

  -- The two branches of a need.
  new_branch : (k n : ℕ) (seen : List ℕ) → new_number seen (suc n) ≡ 0 → need (suc k) types (suc n) seen ≡ suc n ∷ need k types (part_b types (suc n)) (need k types (part_a types (suc n)) seen)
  unfolding need
  new_branch k n seen e = tested (λ xs. xs ≡ suc n ∷ need k types (part_b types (suc n)) (need k types (part_a types (suc n)) seen)) (eqb (new_number seen (suc n)) 0) _ _
      (λ _. refl) (λ t. absurd (T_not (eqb (new_number seen (suc n)) 0) t (subst (λ m. T (eqb m 0)) (sym e) tt)))

  old_branch : (k n : ℕ) (seen : List ℕ) → 0 < new_number seen (suc n) → need (suc k) types (suc n) seen ≡ seen
  unfolding need
  old_branch k n seen h = tested (λ xs. xs ≡ seen) (eqb (new_number seen (suc n)) 0) _ _ (λ t. absurd (omega (arith, eqb→eq (new_number seen (suc n)) 0 t))) (λ _. refl)

  -- More generations than x change nothing.
  need_enough : (j k x : ℕ) (seen : List ℕ) → x ≤ length types → x ≤ j → x ≤ k → need j types x seen ≡ need k types x seen
  need_enough zero k x seen h i l = let z : x ≡ 0 = omega arith in rw z (need_none 0 types seen ∙ sym (need_none k types seen))
  need_enough (suc j) zero x seen h i l = let z : x ≡ 0 = omega arith in rw z (need_none (suc j) types seen ∙ sym (need_none 0 types seen))
  need_enough (suc j) (suc k) zero seen h i l = need_none (suc j) types seen ∙ sym (need_none (suc k) types seen)
  need_enough (suc j) (suc k) (suc n) seen h i l =
      let (la, lb) = lower (suc n) (omega arith, h) in
      let d = need_enough j k (part_a types (suc n)) seen (omega arith) (omega arith) (omega arith) in
      let e = need_enough j k (part_b types (suc n)) (need k types (part_a types (suc n)) seen) (omega arith) (omega arith) (omega arith) in
      elim (dec_lt 0 (new_number seen (suc n))) [
        | yes o ↦ old_branch j n seen o ∙ sym (old_branch k n seen o)
        | no o ↦
            let z : new_number seen (suc n) ≡ 0 = omega arith in
            new_branch j n seen z ∙ (ap (λ xs. suc n ∷ xs) (ap (need j types (part_b types (suc n))) d ∙ e) ∙ sym (new_branch k n seen z))
      ]

  -- What has a number needs nothing; what has none needs its parts, left first, and gets the next.
  pub needed_none : (seen : List ℕ) → needed types 0 seen ≡ seen
  needed_none seen = need_none 0 types seen

  pub needed_old : (x : ℕ) (seen : List ℕ) → 0 < new_number seen x → needed types x seen ≡ seen
  needed_old zero seen h = needed_none seen
  needed_old (suc n) seen h = old_branch n n seen h

  pub needed_new : (x : ℕ) (seen : List ℕ) → NamesType types x → new_number seen x ≡ 0 → needed types x seen ≡ x ∷ needed types (part_b types x) (needed types (part_a types x) seen)
  needed_new zero seen (h, _) e = absurd (omega arith)
  needed_new (suc n) seen h e =
      let (la, lb) = lower (suc n) h in
      let a = part_a types (suc n) in
      let b = part_b types (suc n) in
      let p = need_enough n a a seen (omega (arith, h.1)) (omega arith) (omega arith) in
      let q = need_enough n b b (needed types a seen) (omega (arith, h.1)) (omega arith) (omega arith) in
      new_branch n n seen e ∙ ap (λ xs. suc n ∷ xs) (ap (need n types b) p ∙ q)

  pub seen_nothing : Seen types []
  seen_nothing = record { entries = tt; listed = tt }

  pub seen_needed : (x : ℕ) (seen : List ℕ) → x ≤ length types → Seen types seen → Seen types (needed types x seen)
  seen_needed zero seen h s = subst (Seen types) (sym (needed_none seen)) s
  seen_needed (suc n) seen h s =
      let i : NamesType types (suc n) = (omega arith, h) in
      let (es, e) = need_full_lem types good (suc n) (suc n) seen (omega arith) i s.entries in
      record { entries = es; listed = subst Listed (sym e) (grows (in_full types (suc n)) (map (in_full types) seen) (whole_lem types good (suc n) i) s.listed).listed }

  pub seen_few : (seen : List ℕ) → Seen types seen → length seen ≤ length types
  seen_few seen s = few seen (length types) s.entries (different types good seen s.entries s.listed)

  -- What is needed has a number, and what has one keeps it.
  module _ (xs seen : List ℕ) (h : All (NamesType types) xs) (s : Seen types seen) where
    all_full : All (NamesType types) (need_all types xs seen) × (map (in_full types) (need_all types xs seen) ≡ need_all_full (map (in_full types) xs) (map (in_full types) seen))
    all_full = need_all_full_lem types good xs seen h s.entries

    grown : GrowsAll (map (in_full types) seen) (need_all_full (map (in_full types) xs) (map (in_full types) seen)) (map (in_full types) xs)
    grown = grows_all (map (in_full types) xs) (map (in_full types) seen) (wholes types good xs h) s.listed

    pub seen_all : Seen types (need_all types xs seen)
    seen_all = record { entries = all_full.0; listed = subst Listed (sym all_full.1) grown.listed }

    number_after : (x : ℕ) → NamesType types x → new_number (need_all types xs seen) x ≡ full_number (need_all_full (map (in_full types) xs) (map (in_full types) seen)) (in_full types x)
    number_after x i = same_number types good x (need_all types xs seen) i all_full.0 ∙ ap (λ fs. full_number fs (in_full types x)) all_full.1

    pub number_kept : (x : ℕ) → NamesType types x → 0 < new_number seen x → new_number (need_all types xs seen) x ≡ new_number seen x
    number_kept x i l =
        let e = same_number types good x seen i s.entries in
        number_after x i ∙ (grown.kept (in_full types x) (omega (arith, e)) ∙ sym e)

    numbered_in : (ys : List ℕ) → All (NamesType types) ys → All (In (need_all_full (map (in_full types) xs) (map (in_full types) seen))) (map (in_full types) ys)
        → All (λ x. NamesType types x × (0 < new_number (need_all types xs seen) x)) ys
    numbered_in [] i n = tt
    numbered_in (y ∷ ys) (i, is) (n, ns) = ((i, omega (arith, number_after y i)), numbered_in ys is ns)

    pub all_numbered : All (λ x. NamesType types x × (0 < new_number (need_all types xs seen) x)) xs
    all_numbered = numbered_in xs h grown.numbered

  -- Nothing has a number yet.
  pub numbering_start : (n : ℕ) → length types < n → Numbering types (replicate n 0) 0 []
  numbering_start n h = record {
    room = omega (arith, length-replicate {A = ℕ} n 0);
    each = λ x i. get_or-replicate {A = ℕ} n x 0 0 (omega arith) ∙ sym (number_none equality x);
    counted = refl;
    seen_is = seen_nothing;
  }

  -- The next number for x, once its parts have theirs.
  pub numbering_more : (x : ℕ) (seen new : List ℕ) (count : ℕ) → NamesType types x → new_number seen x ≡ 0 → Seen types seen
      → Numbering types new count (needed types (part_b types x) (needed types (part_a types x) seen)) → Numbering types (set new x (count + 1)) (count + 1) (needed types x seen)
  numbering_more x seen new count h e s n =
      let inner = needed types (part_b types x) (needed types (part_a types x) seen) in
      let eq = needed_new x seen h e in
      subst (Numbering types (set new x (count + 1)) (count + 1)) (sym eq) (record {
        room = omega (arith, n.room, length-set new x (count + 1));
        each = λ y k. elim (ℕ_discrete y x) [
          | yes d ↦ rw d (get_or-set_same new x (count + 1) 0 (omega (arith, n.room, h.1)) ∙ (omega (arith, n.counted, number_here equality x x inner refl)))
          | no d ↦ get_or-set_other new x y (count + 1) 0 d ∙ (n.each y k ∙ sym (number_other equality y x inner d))
        ];
        counted = omega (arith, n.counted);
        seen_is = subst (Seen types) eq (seen_needed x seen h.1 s);
      })
