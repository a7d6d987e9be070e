-- The order of use over a table that keeps rule 6 is the order of its types in full.
use Prim.Native.Nat.{ℕ, zero, suc, ◌≤◌, ◌<◌}
use native.Mathlib.Omega.{arith}
use mathlib.Core.Bool.{Bool, true, false}
use mathlib.Core.List.{List, [], ◌∷◌, ◌++◌, map}
use mathlib.Core.Path.{◌≡◌, refl, ap, ap₂, sym, ◌∙◌, subst}
use lib.Dec.{eqb}
use Rattle.rules.specs.Lists.{All}
use Rattle.rules.specs.Types.{Table, entry, Entry}
use Rattle.inference.specs.FullTypes.{Full, nat}
use Rattle.order.specs.FullTypes.{NamesType, GoodEntries, in_full}
use Rattle.order.specs.Numbers.{equality}
use Rattle.order.specs.Order.{new_number, need, need_all, renumbered_entry, table_by}
use Rattle.order.specs.OrderInFull.{full_equality, full_number, need_full, need_all_full, entry_full, table_of_full}
use Rattle.order.proofs.Lists.{all_with}
use Rattle.order.proofs.Numbers.{number_none, number_other, number_map}
use Rattle.order.proofs.Full.{Form, of_nat_lem, of_fn_lem, of_code, form, full_injective}

-- One thing more where the test holds, in a list and in that of the images.
added : {A B : Type 0} (P : A → Type 0) (g : A → B) (b b' : Bool) (x : A) (inner seen : List A) (y : B) (inner' : List B) → b ≡ b' → g x ≡ y → P x → All P seen → All P inner × (map g inner ≡ inner')
    → All P (elim b [ true ↦ x ∷ inner | false ↦ seen ]) × (map g (elim b [ true ↦ x ∷ inner | false ↦ seen ]) ≡ elim b' [ true ↦ y ∷ inner' | false ↦ map g seen ])
added P g true b' x inner seen y inner' e d p ps (h, i) = rw (← e) ((p, h), ap₂ ◌∷◌ d i)
added P g false b' x inner seen y inner' e d p ps (h, i) = rw (← e) (ps, refl)

pub need_none : (k : ℕ) (types : Table) (seen : List ℕ) → need k types 0 seen ≡ seen
unfolding need
need_none zero types seen = refl
need_none (suc k) types seen = refl

module _ (types : Table) (good : GoodEntries types) where
  pub same_number : (x : ℕ) (seen : List ℕ) → NamesType types x → All (NamesType types) seen → new_number seen x ≡ full_number (map (in_full types) seen) (in_full types x)
  same_number x seen h hs = number_map equality full_equality (in_full types) x seen (all_with _ seen (λ y k e. full_injective types good (in_full types y) x y h k e refl) hs)

  pub zero_number : (seen : List ℕ) → All (NamesType types) seen → new_number seen 0 ≡ 0
  zero_number [] h = number_none equality 0
  zero_number (x ∷ xs) ((h, _), k) = number_other equality 0 x xs (λ e. omega arith) ∙ zero_number xs k

  abbrev pub Needed : ℕ → ℕ → Full → List ℕ → Type 0
  Needed k x f seen = All (NamesType types) (need k types x seen) × (map (in_full types) (need k types x seen) ≡ need_full f (map (in_full types) seen))

  -- The parts of an entry are needed.
  abbrev Inner : ℕ → List ℕ → List Full → Entry → Type 0
  Inner k seen fs y = let inner = need k types y.b (need k types y.a seen) in All (NamesType types) inner × (map (in_full types) inner ≡ fs)

  need_step : (k n : ℕ) (f : Full) (seen : List ℕ) → Form types (suc n) f → in_full types (suc n) ≡ f → NamesType types (suc n) → All (NamesType types) seen
      → ((p : ℕ) (seen : List ℕ) → p < suc n → NamesType types p → All (NamesType types) seen → Needed k p (in_full types p) seen) → Needed (suc k) (suc n) f seen
  unfolding need need_full
  need_step k n f seen (of_nat_lem e) d h hs parts =
      added (NamesType types) (in_full types) _ _ (suc n) _ seen nat _ (ap (λ m. eqb m 0) (same_number (suc n) seen h hs ∙ ap (full_number (map (in_full types) seen)) d)) d h hs
      (subst (Inner k seen (map (in_full types) seen)) (sym e) (rw (need_none k types seen) (rw (need_none k types seen) (hs, refl))))
  need_step k n f seen (of_fn_lem p q e ip iq lp lq) d h hs parts =
      let (js, i) = parts p seen lp ip hs in
      let (ks, j) = parts q (need k types p seen) lq iq js in
      added (NamesType types) (in_full types) _ _ (suc n) _ seen _ _ (ap (λ m. eqb m 0) (same_number (suc n) seen h hs ∙ ap (full_number (map (in_full types) seen)) d)) d h hs
      (subst (Inner k seen (need_full (in_full types q) (need_full (in_full types p) (map (in_full types) seen)))) (sym e) (ks, j ∙ ap (need_full (in_full types q)) i))
  need_step k n f seen (of_code c e ic lc) d h hs parts =
      let (js, i) = parts c seen lc ic hs in
      added (NamesType types) (in_full types) _ _ (suc n) _ seen _ _ (ap (λ m. eqb m 0) (same_number (suc n) seen h hs ∙ ap (full_number (map (in_full types) seen)) d)) d h hs
      (subst (Inner k seen (need_full (in_full types c) (map (in_full types) seen))) (sym e) (rw (need_none k types (need k types c seen)) (js, i)))

  pub need_full_lem : (k x : ℕ) (seen : List ℕ) → x ≤ k → NamesType types x → All (NamesType types) seen → Needed k x (in_full types x) seen
  need_full_lem zero x seen l h hs = absurd (omega arith)
  need_full_lem (suc k) zero seen l h hs = absurd (omega arith)
  need_full_lem (suc k) (suc n) seen l h hs = need_step k n (in_full types (suc n)) seen (form types good (suc n) h) refl h hs (λ p seen i ip js. need_full_lem k p seen (omega arith) ip js)

  pub need_all_full_lem : (xs seen : List ℕ) → All (NamesType types) xs → All (NamesType types) seen
      → All (NamesType types) (need_all types xs seen) × (map (in_full types) (need_all types xs seen) ≡ need_all_full (map (in_full types) xs) (map (in_full types) seen))
  unfolding need_all need_all_full
  need_all_full_lem [] seen h hs = (hs, refl)
  need_all_full_lem (x ∷ xs) seen (h, k) hs =
      let (js, i) = need_full_lem x x seen (omega arith) h hs in
      let (ks, j) = need_all_full_lem xs (need x types x seen) k js in
      (ks, j ∙ ap (need_all_full (map (in_full types) xs)) i)

  -- The written table is that of the types in full.
  pub renumbered_full : (x : ℕ) (f : Full) (seen : List ℕ) → Form types x f → All (NamesType types) seen → renumbered_entry seen (entry types x) ≡ entry_full (map (in_full types) seen) f
  renumbered_full x f seen (of_nat_lem e) hs = rw e (rw (zero_number seen hs))
  renumbered_full x f seen (of_fn_lem p q e ip iq _ _) hs = rw e (rw (same_number p seen ip hs, same_number q seen iq hs))
  renumbered_full x f seen (of_code c e ic _) hs = rw e (rw (same_number c seen ic hs, zero_number seen hs))

  pub table_full_lem : (seen : List ℕ) → All (NamesType types) seen → table_by types seen ≡ table_of_full (map (in_full types) seen)
  unfolding table_by table_of_full
  table_full_lem [] h = refl
  table_full_lem (x ∷ xs) (h, k) = ap₂ (λ t y. t ++ (y ∷ [])) (table_full_lem xs k) (renumbered_full x (in_full types x) xs (form types good x h) k)
