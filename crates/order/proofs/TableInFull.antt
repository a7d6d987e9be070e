-- The table of types in order of use keeps rule 6, and its types in full are those that were listed.
use Prim.Native.Nat.{ℕ, suc, ◌+◌, ◌-◌, ◌≤◌, ◌<◌}
use native.Mathlib.Omega.{arith}
use native.Mathlib.Decide.{dec_lt}
use mathlib.Core.Bool.{true}
use mathlib.Core.List.{List, [], ◌∷◌, ◌++◌}
use mathlib.Core.Path.{◌≡◌, refl, ap, ap₂, sym, ◌∙◌}
use lib.ListN.{length, length-append, get_or-append}
use lib.Seq.{get_or-append-add}
use mir.Facts.{yes_and}
use Rattle.rules.specs.Lists.{pick}
use Rattle.rules.specs.Types.{Entry, Table, no_entry, entry, Fn, Code}
use Rattle.rules.specs.Conditions.{Holds, same, same_entry}
use Rattle.rules.specs.Check.{kind_rule, alike}
use Rattle.rules.proofs.General.{is_false}
use Rattle.rules.proofs.Tests.{holding}
use Rattle.rules.proofs.Sums.{total_ext, total_none}
use Rattle.inference.specs.FullTypes.{Full, nat, fn, code, cut}
use Rattle.order.specs.FullTypes.{NamesType, GoodEntries, in_full}
use Rattle.order.specs.OrderInFull.{full_equality, full_number, entry_full, table_of_full, In, Parts, Listed}
use Rattle.order.proofs.Numbers.{decide, number_none, number_here, number_other, number_bound, number_injective, kept_new}
use Rattle.order.proofs.Full.{Kinded, a_nat, a_fn, a_code, entry_nat, entry_fn, entry_code}
use Rattle.order.proofs.Listed.{Keeps}

pub length_table : (fs : List Full) → length (table_of_full fs) ≡ length fs
unfolding table_of_full
length_table [] = refl
length_table (f ∷ fs) = length-append (table_of_full fs) (entry_full fs f ∷ []) ∙ (omega (arith, length_table fs))

-- The last entry of a table, and those before it.
last_entry : (types : Table) (x : Entry) → entry (types ++ (x ∷ [])) (suc (length types)) ≡ x
last_entry types x = let e : length types ≡ length types + 0 = omega arith in rw e (get_or-append-add types (x ∷ []) 0 no_entry)

front_entry : (types : Table) (x : Entry) (n : ℕ) → n ≤ length types → entry (types ++ (x ∷ [])) n ≡ entry types n
front_entry types x n h = get_or-append (no_entry ∷ types) (x ∷ []) no_entry n (omega arith)

-- A type's entry names its parts, whose numbers are lower.
pub record At (fs : List Full) (f : Full) : Type 0 where
  pub parts : Parts fs f
  pub kinded : Kinded (full_number fs f) (entry_full fs f)
  pub is : entry (table_of_full fs) (full_number fs f) ≡ entry_full fs f

kinded_at : (fs : List Full) (f : Full) (n : ℕ) → Parts fs f → length fs < n → Kinded n (entry_full fs f)
kinded_at fs nat n p h = a_nat
kinded_at fs (fn f g) n (p, q) h = a_fn _ _ p (omega (arith, number_bound full_equality f fs)) q (omega (arith, number_bound full_equality g fs))
kinded_at fs (code f) n p h = a_code _ p (omega (arith, number_bound full_equality f fs))
kinded_at fs cut n p h = absurd p

module _ (g : Full) (gs : List Full) (new : full_number gs g ≡ 0) where
  still : Keeps gs (g ∷ gs)
  still = kept_new full_equality g gs new

  parts_kept : (f : Full) → Parts gs f → Parts (g ∷ gs) f
  parts_kept nat p = tt
  parts_kept (fn f h) (p, q) = (omega (arith, still f p), omega (arith, still h q))
  parts_kept (code f) p = omega (arith, still f p)
  parts_kept cut p = p

  entry_kept : (f : Full) → Parts gs f → entry_full (g ∷ gs) f ≡ entry_full gs f
  entry_kept nat p = refl
  entry_kept (fn f h) (p, q) = ap₂ Fn (still f p) (still h q)
  entry_kept (code f) p = ap Code (still f p)
  entry_kept cut p = absurd p

  at_first : Parts gs g → At (g ∷ gs) g
  unfolding table_of_full
  at_first p =
      let m = number_here full_equality g g gs refl in
      let i = entry_kept g p in
      record {
        parts = parts_kept g p;
        kinded = rw (m, i) (kinded_at gs g (suc (length gs)) p (omega arith));
        is = rw (m, i) (rw (← length_table gs) (last_entry (table_of_full gs) (entry_full gs g)));
      }

  at_later : (f : Full) → At gs f → In gs f → At (g ∷ gs) f
  unfolding table_of_full
  at_later f a h =
      let m = still f h in
      let i = entry_kept f a.parts in
      record {
        parts = parts_kept f a.parts;
        kinded = rw (m, i) a.kinded;
        is = rw (m, i) (front_entry (table_of_full gs) (entry_full gs g) (full_number gs f) (omega (arith, length_table gs, number_bound full_equality f gs)) ∙ a.is);
      }

pub at : (fs : List Full) (f : Full) → Listed fs → In fs f → At fs f
at [] f l h = absurd (omega (arith, number_none full_equality f))
at (g ∷ gs) f (n, p, l) h = elim (decide full_equality f g) [
  | yes e ↦ rw e (at_first g gs n p)
  | no e ↦ let i : In gs f = omega (arith, number_other full_equality f g gs e) in at_later g gs n f (at gs f l i) i
]

-- Every number of the table is that of a type.
pub record Numbered (fs : List Full) (n : ℕ) : Type 0 where
  pub type : Full
  pub has : In fs type
  pub numbers : full_number fs type ≡ n

pub numbered : (fs : List Full) (n : ℕ) → Listed fs → 1 ≤ n → n ≤ length fs → Numbered fs n
numbered [] n l h k = absurd (omega arith)
numbered (g ∷ gs) n (new, p, l) h k = elim (dec_lt (length gs) n) [
  | yes i ↦ let e = number_here full_equality g g gs refl in record { type = g; has = omega arith; numbers = omega arith }
  | no i ↦
      let r = numbered gs n l h (omega arith) in
      let e = still g gs new r.type r.has in
      record { type = r.type; has = omega (arith, r.has); numbers = e ∙ r.numbers }
]

-- Rule 6.
kind_holds : (n : ℕ) (x : Entry) → Kinded n x → Holds (kind_rule n x)
kind_holds n x a_nat = (refl, tt)
kind_holds n x (a_fn p q hp lp hq lq) = ((hp, omega arith), ((hq, omega arith), tt))
kind_holds n x (a_code c hc lc) = (refl, ((hc, omega arith), (refl, tt)))

module _ (fs : List Full) (l : Listed fs) where
  -- Two types have two entries.
  same_entry_lem : (f g : Full) → Parts fs f → Parts fs g → entry_full fs f ≡ entry_full fs g → f ≡ g
  same_entry_lem nat nat p q e = refl
  same_entry_lem nat (fn g h) p q e = absurd (omega (arith, ap (λ r. r.kind) e))
  same_entry_lem nat (code g) p q e = absurd (omega (arith, ap (λ r. r.kind) e))
  same_entry_lem nat cut p q e = absurd q
  same_entry_lem (fn f h) nat p q e = absurd (omega (arith, ap (λ r. r.kind) e))
  same_entry_lem (fn f h) (fn f' h') p q e = ap₂ fn (number_injective full_equality f f' fs p.0 (ap (λ r. r.a) e)) (number_injective full_equality h h' fs p.1 (ap (λ r. r.b) e))
  same_entry_lem (fn f h) (code g) p q e = absurd (omega (arith, ap (λ r. r.kind) e))
  same_entry_lem (fn f h) cut p q e = absurd q
  same_entry_lem (code f) nat p q e = absurd (omega (arith, ap (λ r. r.kind) e))
  same_entry_lem (code f) (fn g h) p q e = absurd (omega (arith, ap (λ r. r.kind) e))
  same_entry_lem (code f) (code g) p q e = ap code (number_injective full_equality f g fs p (ap (λ r. r.a) e))
  same_entry_lem (code f) cut p q e = absurd q
  same_entry_lem cut g p q e = absurd p

  entry_of : (n : ℕ) → (r : Numbered fs n) → entry (table_of_full fs) n ≡ entry_full fs r.type
  entry_of n r = rw r.numbers at (at fs r.type l r.has).is

  apart : (m n : ℕ) → 1 ≤ m → m < n → n ≤ length fs → entry (table_of_full fs) m ≡ entry (table_of_full fs) n → ⊥
  apart m n h k i e =
      let a = numbered fs m l h (omega arith) in
      let b = numbered fs n l (omega arith) i in
      let d = same_entry_lem a.type b.type (at fs a.type l a.has).parts (at fs b.type l b.has).parts (sym (entry_of m a) ∙ (e ∙ entry_of n b)) in
      omega (arith, sym a.numbers ∙ (ap (full_number fs) d ∙ b.numbers))

  none_alike : (n : ℕ) → 1 ≤ n → n ≤ length fs → alike (table_of_full fs) n ≡ 0
  none_alike n h k = total_ext _ (λ m. 0) 1 (n - 1) unlike ∙ total_none (λ m. 0) 1 (n - 1) (λ m i. refl)
    where
      unlike : (m : ℕ) → 1 ≤ m → m < 1 + (n - 1) → pick {A = ℕ} (same_entry (entry (table_of_full fs) m) (entry (table_of_full fs) n)) 1 0 ≡ 0
      unlike m i j =
          let x = entry (table_of_full fs) m in
          let y = entry (table_of_full fs) n in
          rw (is_false (same_entry x y) (λ t. apart m n i (omega arith) k (holding (same x y ∷ []) (yes_and (same_entry x y) true t tt)).0))

  pub table_good : GoodEntries (table_of_full fs)
  table_good n h k =
      let i : n ≤ length fs = omega (arith, length_table fs) in
      let r = numbered fs n l h i in
      (none_alike n h i, rw (entry_of n r) (kind_holds n _ (rw r.numbers at (at fs r.type l r.has).kinded)))

  pub is_entry_lem : (f : Full) → In fs f → NamesType (table_of_full fs) (full_number fs f)
  is_entry_lem f h = (h, omega (arith, number_bound full_equality f fs, length_table fs))

  -- Each type is itself in full.
  pub full_back : (f : Full) → In fs f → in_full (table_of_full fs) (full_number fs f) ≡ f
  full_back nat h = entry_nat (table_of_full fs) table_good (full_number fs nat) (is_entry_lem nat h) (at fs nat l h).is
  full_back (fn f g) h =
      let a = at fs (fn f g) l h in
      (entry_fn (table_of_full fs) table_good (full_number fs (fn f g)) _ _ (is_entry_lem (fn f g) h) a.is).0 ∙ ap₂ fn (full_back f a.parts.0) (full_back g a.parts.1)
  full_back (code f) h =
      let a = at fs (code f) l h in
      (entry_code (table_of_full fs) table_good (full_number fs (code f)) _ (is_entry_lem (code f) h) a.is).0 ∙ ap code (full_back f a.parts)
  full_back cut h = absurd (at fs cut l h).parts
