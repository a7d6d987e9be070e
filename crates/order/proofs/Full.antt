-- Types in full: each entry of a table that keeps rule 6 is made of its parts, and no two entries are the same type.
use Prim.Native.Nat.{ℕ, zero, suc, ◌-◌, ◌≤◌, ◌<◌}
use native.Mathlib.Omega.{arith}
use mathlib.Core.List.{[], ◌∷◌}
use mathlib.Core.Bool.{Bool, true, false}
use mathlib.Core.Path.{◌≡◌, refl, ap, ap₂, sym, ◌∙◌, subst}
use lib.Dec.{T, eqb, eqb→eq}
use lib.ListN.{length}
use Rattle.rules.specs.Lists.{pick}
use Rattle.rules.specs.Types.{Entry, Table, entry, Nat, Fn, Code}
use Rattle.rules.specs.Conditions.{Holds, same, between, equal}
use Rattle.rules.specs.Check.{kind_rule}
use Rattle.rules.proofs.Meaning.{unlike}
use Rattle.inference.specs.FullTypes.{Full, nat, fn, code, cut, entry_out, full, Whole}
use Rattle.order.specs.FullTypes.{NamesType, GoodEntries, in_full}

-- An entry by its kind. Its parts are entries of lower numbers.
pub data Kinded (n : ℕ) : Entry → Type 0 where
  a_nat : Kinded n Nat
  a_fn : (p q : ℕ) → 1 ≤ p → p < n → 1 ≤ q → q < n → Kinded n (Fn p q)
  a_code : (c : ℕ) → 1 ≤ c → c < n → Kinded n (Code c)

kinded : (n : ℕ) (x : Entry) → Holds (kind_rule n x) → Kinded n x
kinded n x h = go (eqb x.kind 1) (eqb x.kind 2) (eqb→eq x.kind 2) h
  where
    as_fn : (k : ℕ) → k ≡ 2 → Kinded n (Fn x.a x.b) → Kinded n (record { kind = k; a = x.a; b = x.b })
    as_fn k e c = rw e c

    as_code : (k b : ℕ) → k ≡ 3 → b ≡ 0 → Kinded n (Code x.a) → Kinded n (record { kind = k; a = x.a; b = b })
    as_code k b e d c = rw (e, d) c

    go : (c d : Bool) → (T d → x.kind ≡ 2) → Holds (pick c (same x Nat ∷ []) (pick d (between 1 x.a (n - 1) ∷ between 1 x.b (n - 1) ∷ []) (equal x.kind 3 ∷ between 1 x.a (n - 1) ∷ equal x.b 0 ∷ []))) → Kinded n x
    go true d k (e, _) = rw e a_nat
    go false true k (p, (q, _)) = as_fn x.kind (k tt) (a_fn x.a x.b (omega arith) (omega arith) (omega arith) (omega arith))
    go false false k (e, (p, (q, _))) = as_code x.kind x.b e q (a_code x.a (omega arith) (omega arith))

-- Type x by its form in full.
pub data Form (types : Table) (x : ℕ) : Full → Type 0 where
  of_nat_lem : entry types x ≡ Nat → Form types x nat
  of_fn_lem : (p q : ℕ) → entry types x ≡ Fn p q → NamesType types p → NamesType types q → p < x → q < x → Form types x (fn (in_full types p) (in_full types q))
  of_code : (c : ℕ) → entry types x ≡ Code c → NamesType types c → c < x → Form types x (code (in_full types c))

module _ (types : Table) (good : GoodEntries types) where
  pub kind_of_lem : (x : ℕ) → NamesType types x → Kinded x (entry types x)
  kind_of_lem x (h, k) = kinded x (entry types x) (good x h (omega arith)).1

  -- More generations than x change nothing.
  once_more : (j k x : ℕ) (y : Entry) → Kinded x y → x ≤ length types → ((p : ℕ) → NamesType types p → p < x → full j types p ≡ full k types p) → entry_out (full j types) y ≡ entry_out (full k types) y
  once_more j k x y a_nat b below = refl
  once_more j k x y (a_fn p q hp lp hq lq) b below = ap₂ fn (below p (hp, omega arith) lp) (below q (hq, omega arith) lq)
  once_more j k x y (a_code c hc lc) b below = ap code (below c (hc, omega arith) lc)

  enough : (j k x : ℕ) → NamesType types x → x ≤ j → x ≤ k → full j types x ≡ full k types x
  unfolding full
  enough zero k x h i l = absurd (omega arith)
  enough (suc j) zero x h i l = absurd (omega arith)
  enough (suc j) (suc k) x h i l = once_more j k x (entry types x) (kind_of_lem x h) h.1 (λ p hp lp. enough j k p hp (omega arith) (omega arith))

  form_of : (n : ℕ) (y : Entry) → suc n ≤ length types → entry types (suc n) ≡ y → Kinded (suc n) y → Form types (suc n) (entry_out (full n types) y)
  unfolding in_full
  form_of n y b e a_nat = of_nat_lem e
  form_of n y b e (a_fn p q hp lp hq lq) =
      let ip : NamesType types p = (hp, omega arith) in
      let iq : NamesType types q = (hq, omega arith) in
      rw (enough n p p ip (omega arith) (omega arith), enough n q q iq (omega arith) (omega arith)) (of_fn_lem p q e ip iq lp lq)
  form_of n y b e (a_code c hc lc) =
      let ic : NamesType types c = (hc, omega arith) in
      rw (enough n c c ic (omega arith) (omega arith)) (of_code c e ic lc)

  pub form : (x : ℕ) → NamesType types x → Form types x (in_full types x)
  unfolding in_full full
  form zero (h, k) = absurd (omega arith)
  form (suc n) h = form_of n (entry types (suc n)) h.1 refl (kind_of_lem (suc n) h)

  -- Nothing of it is cut.
  whole_form : (n x : ℕ) (f : Full) → Form types x f → x < suc n → ((y : ℕ) → NamesType types y → y < n → Whole (in_full types y)) → Whole f
  unfolding Whole
  whole_form n x f (of_nat_lem e) b below = tt
  whole_form n x f (of_fn_lem p q e ip iq lp lq) b below = (below p ip (omega arith), below q iq (omega arith))
  whole_form n x f (of_code c e ic lc) b below = below c ic (omega arith)

  whole_below : (n x : ℕ) → NamesType types x → x < n → Whole (in_full types x)
  whole_below zero x h b = absurd (omega arith)
  whole_below (suc n) x h b = whole_form n x (in_full types x) (form x h) b (λ y i l. whole_below n y i l)

  pub whole_lem : (x : ℕ) → NamesType types x → Whole (in_full types x)
  whole_lem x h = whole_below (suc x) x h (omega arith)

-- Both ways between an entry and its form in full.
pub record FnParts (types : Table) (x : ℕ) (g h : Full) : Type 0 where
  pub p : ℕ
  pub q : ℕ
  pub is : entry types x ≡ Fn p q
  pub p_is : NamesType types p
  pub q_is : NamesType types q
  pub p_full : in_full types p ≡ g
  pub q_full : in_full types q ≡ h

pub record CodePart (types : Table) (x : ℕ) (g : Full) : Type 0 where
  pub c : ℕ
  pub is : entry types x ≡ Code c
  pub c_is : NamesType types c
  pub c_full : in_full types c ≡ g

-- Two forms are not one.
unlike_forms : {P : Type 0} {f g : Full} (n : Full → ℕ) → f ≡ g → (n f ≡ n g → ⊥) → P
unlike_forms n e h = absurd (h (ap n e))

abbrev form_no : Full → ℕ
form_no nat = 1
form_no (fn f g) = 2
form_no (code f) = 3
form_no cut = 0

abbrev argument : Full → Full
argument nat = nat
argument (fn f g) = f
argument (code f) = f
argument cut = cut

abbrev result : Full → Full
result nat = nat
result (fn f g) = g
result (code f) = f
result cut = cut

module _ (types : Table) where
  from_nat : (x : ℕ) (f : Full) → Form types x f → f ≡ nat → entry types x ≡ Nat
  from_nat x f (of_nat_lem e) d = e
  from_nat x f (of_fn_lem p q e _ _ _ _) d = unlike_forms form_no d (λ z. omega arith)
  from_nat x f (of_code c e _ _) d = unlike_forms form_no d (λ z. omega arith)

  from_fn : (x : ℕ) (f g h : Full) → Form types x f → f ≡ fn g h → FnParts types x g h
  from_fn x f g h (of_nat_lem e) d = unlike_forms form_no d (λ z. omega arith)
  from_fn x f g h (of_fn_lem p q e ip iq _ _) d = record { p = p; q = q; is = e; p_is = ip; q_is = iq; p_full = ap argument d; q_full = ap result d }
  from_fn x f g h (of_code c e _ _) d = unlike_forms form_no d (λ z. omega arith)

  from_code : (x : ℕ) (f g : Full) → Form types x f → f ≡ code g → CodePart types x g
  from_code x f g (of_nat_lem e) d = unlike_forms form_no d (λ z. omega arith)
  from_code x f g (of_fn_lem p q e _ _ _ _) d = unlike_forms form_no d (λ z. omega arith)
  from_code x f g (of_code c e ic _) d = record { c = c; is = e; c_is = ic; c_full = ap argument d }

  from_cut : (x : ℕ) (f : Full) → Form types x f → f ≡ cut → ⊥
  from_cut x f (of_nat_lem e) d = unlike_forms form_no d (λ z. omega arith)
  from_cut x f (of_fn_lem p q e _ _ _ _) d = unlike_forms form_no d (λ z. omega arith)
  from_cut x f (of_code c e _ _) d = unlike_forms form_no d (λ z. omega arith)

  to_nat : (x : ℕ) (f : Full) → Form types x f → entry types x ≡ Nat → f ≡ nat
  to_nat x f (of_nat_lem e) d = refl
  to_nat x f (of_fn_lem p q e _ _ _ _) d = absurd (omega (arith, ap (λ r. r.kind) (sym e ∙ d)))
  to_nat x f (of_code c e _ _) d = absurd (omega (arith, ap (λ r. r.kind) (sym e ∙ d)))

  to_fn : (x : ℕ) (f : Full) (p q : ℕ) → Form types x f → entry types x ≡ Fn p q → (f ≡ fn (in_full types p) (in_full types q)) × NamesType types p × NamesType types q
  to_fn x f p q (of_nat_lem e) d = absurd (omega (arith, ap (λ r. r.kind) (sym e ∙ d)))
  to_fn x f p q (of_fn_lem p' q' e ip iq _ _) d =
      let i = ap (λ r. r.a) (sym e ∙ d) in
      let j = ap (λ r. r.b) (sym e ∙ d) in
      (ap₂ (λ y z. fn (in_full types y) (in_full types z)) i j, subst (NamesType types) i ip, subst (NamesType types) j iq)
  to_fn x f p q (of_code c e _ _) d = absurd (omega (arith, ap (λ r. r.kind) (sym e ∙ d)))

  to_code : (x : ℕ) (f : Full) (c : ℕ) → Form types x f → entry types x ≡ Code c → (f ≡ code (in_full types c)) × NamesType types c
  to_code x f c (of_nat_lem e) d = absurd (omega (arith, ap (λ r. r.kind) (sym e ∙ d)))
  to_code x f c (of_fn_lem p q e _ _ _ _) d = absurd (omega (arith, ap (λ r. r.kind) (sym e ∙ d)))
  to_code x f c (of_code c' e ic _) d = let i = ap (λ r. r.a) (sym e ∙ d) in (ap (λ y. code (in_full types y)) i, subst (NamesType types) i ic)

module _ (types : Table) (good : GoodEntries types) where
  pub nat_entry : (x : ℕ) → NamesType types x → in_full types x ≡ nat → entry types x ≡ Nat
  nat_entry x h = from_nat types x (in_full types x) (form types good x h)

  pub fn_entry : (x : ℕ) (g h : Full) → NamesType types x → in_full types x ≡ fn g h → FnParts types x g h
  fn_entry x g h i = from_fn types x (in_full types x) g h (form types good x i)

  pub code_entry : (x : ℕ) (g : Full) → NamesType types x → in_full types x ≡ code g → CodePart types x g
  code_entry x g h = from_code types x (in_full types x) g (form types good x h)

  pub entry_nat : (x : ℕ) → NamesType types x → entry types x ≡ Nat → in_full types x ≡ nat
  entry_nat x h = to_nat types x (in_full types x) (form types good x h)

  pub entry_fn : (x p q : ℕ) → NamesType types x → entry types x ≡ Fn p q → (in_full types x ≡ fn (in_full types p) (in_full types q)) × NamesType types p × NamesType types q
  entry_fn x p q h = to_fn types x (in_full types x) p q (form types good x h)

  pub entry_code : (x c : ℕ) → NamesType types x → entry types x ≡ Code c → (in_full types x ≡ code (in_full types c)) × NamesType types c
  entry_code x c h = to_code types x (in_full types x) c (form types good x h)

  -- Equal types have equal numbers.
  pub full_injective : (f : Full) (x y : ℕ) → NamesType types x → NamesType types y → in_full types x ≡ f → in_full types y ≡ f → x ≡ y
  full_injective nat x y h k e d = unlike types good x y Nat (omega arith) (nat_entry x h e) (nat_entry y k d)
  full_injective (fn f g) x y h k e d =
      let a = fn_entry x f g h e in
      let b = fn_entry y f g k d in
      let i = full_injective f a.p b.p a.p_is b.p_is a.p_full b.p_full in
      let j = full_injective g a.q b.q a.q_is b.q_is a.q_full b.q_full in
      unlike types good x y (Fn a.p a.q) (omega arith) a.is (b.is ∙ ap₂ Fn (sym i) (sym j))
  full_injective (code f) x y h k e d =
      let a = code_entry x f h e in
      let b = code_entry y f k d in
      let i = full_injective f a.c b.c a.c_is b.c_is a.c_full b.c_full in
      unlike types good x y (Code a.c) (omega arith) a.is (b.is ∙ ap Code (sym i))
  full_injective cut x y h k e d = absurd (from_cut types x (in_full types x) (form types good x h) e)
