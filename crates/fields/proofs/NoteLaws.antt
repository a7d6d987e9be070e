-- Rule 6 by the set in which the parts of the earlier entries are noted. Assumes nothing.
use Prim.Native.Nat.{ℕ, zero, suc, ◌+◌, ◌-◌, ◌*◌, ◌/◌, ◌%◌, ◌^◌, ◌≤◌, ◌<◌}
use native.Mathlib.Omega.{arith}
use native.Mathlib.Nat.{zero-div}
use native.Mathlib.Decide.{ℕ_discrete}
use mathlib.Core.Bool.{Bool, false, not, ◌&&◌, and-true, and-false}
use mathlib.Core.List.{List}
use mathlib.Core.Path.{◌≡◌, refl, sym, ap, ap₂, ◌∙◌}
use lib.Dec.{eqb}
use lib.ListN.{get_or, replicate}
use borrow.Author.Tests.{eq-eqb, ne_eqb, not-false}
use Rattle.rules.specs.Lists.{pick, total}
use Rattle.rules.specs.Types.{Entry, Table, entry}
use Rattle.rules.specs.Conditions.{same_entry, Holds, holds}
use Rattle.rules.specs.Check.{is, kind_rule, alike}
use Rattle.rules.proofs.Tests.{holding}
use Rattle.rules.proofs.Sums.{total_ext, total_split}
use Rattle.rules.proofs.Written.{kind_cases}
use Rattle.records.specs.declared.Entry.{Entry as Read}
use Rattle.records.specs.Meant.{entry_meant}
use Rattle.records.specs.Places.{IsEntry}
use Rattle.fields.specs.BitSets.{member, Inserted}
use Rattle.fields.specs.Noting.{parts, Noted, CanNote, Notes}

-- The kind of a good entry is known by its parts, of which the second is below 256.
abbrev kind_by : ℕ → ℕ → ℕ
kind_by a b = pick (eqb b 0) (pick (eqb a 0) 1 3) 2

record Known (x : Entry) : Type 0 where
  kind_by_lem : x.kind ≡ kind_by x.a x.b
  low_b : x.b < 256

known : (n : ℕ) (x : Entry) → n ≤ 256 → Holds (kind_rule n x) → Known x
known n x few h = kind_cases n x h
    (λ e. rw e (record { kind_by_lem = refl; low_b = omega arith }))
    (λ k p q. let (s, (t, _)) = (rw k at h) in record { kind_by_lem = rw (ne_eqb x.b 0 (λ z. omega arith)) k; low_b = omega arith })
    (λ k p q. let (_, (s, _)) = (rw k at h) in record { kind_by_lem = rw (q, ne_eqb x.a 0 (λ z. omega arith)) k; low_b = omega arith })

-- So good entries are the same where their parts are.
same_parts : (x y : Entry) → Known x → Known y → same_entry x y ≡ eqb (parts x) (parts y)
same_parts x y p q = elim (ℕ_discrete (parts x) (parts y)) [
  | yes e ↦
      let ea : x.a ≡ y.a = omega arith in
      let eb : x.b ≡ y.b = omega arith in
      let ek : x.kind ≡ y.kind = p.kind_by_lem ∙ ap₂ kind_by ea eb ∙ sym q.kind_by_lem in
      simp (eq-eqb x.kind y.kind ek, eq-eqb x.a y.a ea, eq-eqb x.b y.b eb, eq-eqb (parts x) (parts y) e)
  | no h ↦ elim (ℕ_discrete x.a y.a) [
    | yes ea ↦ simp (ne_eqb x.b y.b (λ eb. h (omega arith)), ne_eqb (parts x) (parts y) h, and-false)
    | no ha ↦ simp (ne_eqb x.a y.a ha, ne_eqb (parts x) (parts y) h, and-false)
  ]
]

-- A sum with its last number apart, and a list of zeros.
and_last : (f : ℕ → ℕ) (n : ℕ) → 1 ≤ n → total f 1 n ≡ total f 1 (n - 1) + f n
unfolding total
and_last f n h =
    let p : n - 1 + 1 ≡ n = omega arith in
    let q : 1 + (n - 1) ≡ n = omega arith in
    omega (arith, rw (p, q) at (total_split f 1 (n - 1) 1))

zeros : (n i : ℕ) → get_or {A = ℕ} (replicate n 0) i 0 ≡ 0
zeros zero i = refl
zeros (suc n) zero = refl
zeros (suc n) (suc i) = zeros n i

module _ (types : Table) (seen : List ℕ) (n : ℕ) (c : CanNote types seen n) where
  -- Where entry n is of a kind that there is, the set tells how many of those before it are like it.
  alike_counted : Holds (kind_rule n (entry types n)) → alike types n ≡ member seen (parts (entry types n))
  alike_counted h =
      total_ext _ _ 1 (n - 1) (λ m i j. ap (λ b. pick {A = ℕ} b 1 0)
      (same_parts (entry types m) (entry types n) (known m (entry types m) (omega (arith, c.few)) (c.noted.kinds m i (omega arith))) (known n (entry types n) c.few h)))
      ∙ sym (c.noted.counted (parts (entry types n)))

  module _ (e : Read) (i : IsEntry types n e) (b : Bool) (t : b ≡ holds (kind_rule n (entry_meant e))) where
    kind_told : b ≡ holds (kind_rule n (entry types n))
    kind_told = t ∙ ap (λ x. holds (kind_rule n x)) i.is

    module _ (k : not b ≡ false) where
      good : Holds (kind_rule n (entry types n))
      good = holding (kind_rule n (entry types n)) (rw (sym kind_told ∙ not-false b k) tt)

      same_number : 256 * e.a + e.b ≡ parts (entry types n)
      same_number = ap parts i.is

      pub note_told : (after : List ℕ) (r : Bool) → Inserted seen after (256 * e.a + e.b) r → Notes types after n r
      note_told after r s = record {
        told = s.told ∙ ap (λ j. eqb (member seen j) 0) same_number ∙ ap (λ j. eqb j 0) (sym (alike_counted good))
            ∙ sym (and-true (eqb (alike types n) 0)) ∙ ap (λ x. eqb (alike types n) 0 && x) (sym (not-false b k) ∙ kind_told);
        noted = λ z. record {
          kinds = λ m p q. elim (ℕ_discrete m n) [
            | yes f ↦ rw f good
            | no g ↦ c.noted.kinds m p (omega arith)
          ];
          counted = λ j. s.made z j ∙ ap₂ ◌+◌ (c.noted.counted j) (ap (λ x. is x j) same_number) ∙ sym (and_last (λ m. is (parts (entry types m)) j) n c.within.some);
        };
      }

-- An empty set is that of no entries.
pub noted_none : (types : Table) (words : ℕ) (seen : List ℕ) → seen ≡ replicate words 0 → Noted types seen 0
unfolding total member
noted_none types words seen e = record { kinds = λ m p q. absurd (omega arith); counted = λ k. rw (e, zeros words (k / 64)) (ap (λ x. x % 2) (zero-div (2 ^ (k % 64)))) }
