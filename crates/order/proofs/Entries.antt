-- The numbers of one type in two tables: the entry in one table says what that in the other says.
use Prim.Native.Nat.{ℕ}
use mathlib.Core.Path.{◌≡◌, ap, ap₂, sym, ◌∙◌, subst}
use Rattle.rules.specs.Types.{Table, entry, Nat, Fn, Code, part_a, part_b}
use Rattle.order.specs.FullTypes.{GoodEntries, in_full, SameType}
use Rattle.order.proofs.Full.{nat_entry, fn_entry, code_entry, entry_nat, entry_fn, entry_code, full_injective}

module _ (types types' : Table) (good : GoodEntries types) (good' : GoodEntries types') where
  pub equal_there : (x x' y y' : ℕ) → SameType types types' x x' → SameType types types' y y' → x ≡ y → x' ≡ y'
  equal_there x x' y y' h k e = full_injective types' good' (in_full types x) x' y' h.there k.there (sym h.same) (sym k.same ∙ ap (in_full types) (sym e))

  pub nat_there : (x x' : ℕ) → SameType types types' x x' → entry types x ≡ Nat → entry types' x' ≡ Nat
  nat_there x x' h e = nat_entry types' good' x' h.there (sym h.same ∙ entry_nat types good x h.here e)

  -- The parts of the two are the same types.
  pub record SameFn (x x' p q : ℕ) : Type 0 where
    pub p' : ℕ
    pub q' : ℕ
    pub is : entry types' x' ≡ Fn p' q'
    pub first : SameType types types' p p'
    pub second : SameType types types' q q'

  pub same_fn : (x x' p q : ℕ) → SameType types types' x x' → entry types x ≡ Fn p q → SameFn x x' p q
  same_fn x x' p q h e =
      let (f, ip, iq) = entry_fn types good x p q h.here e in
      let r = fn_entry types' good' x' (in_full types p) (in_full types q) h.there (sym h.same ∙ f) in
      record {
        p' = r.p;
        q' = r.q;
        is = r.is;
        first = record { here = ip; there = r.p_is; same = sym r.p_full };
        second = record { here = iq; there = r.q_is; same = sym r.q_full };
      }

  pub record SameCode (x x' c : ℕ) : Type 0 where
    pub c' : ℕ
    pub is : entry types' x' ≡ Code c'
    pub inner : SameType types types' c c'

  pub same_code : (x x' c : ℕ) → SameType types types' x x' → entry types x ≡ Code c → SameCode x x' c
  same_code x x' c h e =
      let (f, ic) = entry_code types good x c h.here e in
      let r = code_entry types' good' x' (in_full types c) h.there (sym h.same ∙ f) in
      record { c' = r.c; is = r.is; inner = record { here = ic; there = r.c_is; same = sym r.c_full } }

  -- With parts that are given.
  pub fn_there : (x x' p p' q q' : ℕ) → SameType types types' x x' → SameType types types' p p' → SameType types types' q q' → entry types x ≡ Fn p q → entry types' x' ≡ Fn p' q'
  fn_there x x' p p' q q' h hp hq e =
      let r = same_fn x x' p q h e in
      r.is ∙ ap₂ Fn (equal_there p r.p' p p' r.first hp (λ i. p)) (equal_there q r.q' q q' r.second hq (λ i. q))

  pub code_there : (x x' c c' : ℕ) → SameType types types' x x' → SameType types types' c c' → entry types x ≡ Code c → entry types' x' ≡ Code c'
  code_there x x' c c' h hc e = let r = same_code x x' c h e in r.is ∙ ap Code (equal_there c r.c' c c' r.inner hc (λ i. c))

  -- And with those that the tables give.
  pub fn_parts : (x x' : ℕ) → SameType types types' x x' → entry types x ≡ Fn (part_a types x) (part_b types x)
      → SameType types types' (part_a types x) (part_a types' x') × SameType types types' (part_b types x) (part_b types' x')
  fn_parts x x' h e = let r = same_fn x x' (part_a types x) (part_b types x) h e in
      (subst (λ y. SameType types types' (part_a types x) y.a) (sym r.is) r.first, subst (λ y. SameType types types' (part_b types x) y.b) (sym r.is) r.second)

  pub code_part : (x x' : ℕ) → SameType types types' x x' → entry types x ≡ Code (part_a types x) → SameType types types' (part_a types x) (part_a types' x')
  code_part x x' h e = let r = same_code x x' (part_a types x) h e in subst (λ y. SameType types types' (part_a types x) y.a) (sym r.is) r.inner
