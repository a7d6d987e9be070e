-- Rule 6 by the tests of the code: `entering` for search. Assumes nothing.
use Prim.Native.Nat.{ℕ, suc, ◌+◌, ◌-◌, ◌≤◌, ◌<◌}
use native.Mathlib.Omega.{arith}
use mathlib.Core.Bool.{Bool, true, false}
use mathlib.Core.Path.{◌≡◌, refl, sym, ap, ap₂, ◌∙◌}
use lib.Dec.{eqb}
use borrow.Author.Tests.{eq-eqb, ne_eqb}
use Rattle.rules.specs.Lists.{pick, total}
use Rattle.rules.specs.Types.{Table, entry}
use Rattle.rules.specs.Conditions.{same_entry}
use Rattle.rules.specs.Check.{alike}
use Rattle.records.specs.declared.Entry.{Entry as Read}
use Rattle.records.specs.Meant.{entry_meant}
use Rattle.records.specs.Places.{Within}

-- Entry n and each earlier one: the scan has passed those below m.
abbrev pub like : Table → ℕ → ℕ → ℕ
like types n m = pick (same_entry (entry types m) (entry types n)) 1 0

pub record Apart (types : Table) (n m : ℕ) : Type 0 where
  pub some : 1 ≤ m
  pub most : m ≤ n
  pub left : alike types n ≡ total (like types n) m (n - m)

module _ (types : Table) (n : ℕ) where
  pub apart_starts : Within types n → Apart types n 1
  apart_starts w = record { some = omega arith; most = w.some; left = refl }

  more_left : (m : ℕ) → m < n → total (like types n) m (n - m) ≡ like types n m + total (like types n) (m + 1) (n - (m + 1))
  unfolding total
  more_left m h =
      let p : n - m ≡ suc (n - (m + 1)) = omega arith in
      let q : m + 1 ≡ suc m = omega arith in
      rw (p, q)

  module _ (m : ℕ) (x y : Read) (b : Bool) (a : Apart types n m) (h : m < n) (p : entry_meant x ≡ entry types m) (q : entry_meant y ≡ entry types n) (t : b ≡ same_entry (entry_meant x) (entry_meant y)) where
    tested : b ≡ same_entry (entry types m) (entry types n)
    tested = t ∙ ap₂ same_entry p q

    pub apart_goes_on : b ≡ false → Apart types n (m + 1)
    apart_goes_on k = record {
      some = omega arith;
      most = omega arith;
      left = let z : like types n m ≡ 0 = rw (sym tested ∙ k) in a.left ∙ more_left m h ∙ omega (arith, z);
    }

    pub apart_finds : b ≡ true → false ≡ eqb (alike types n) 0
    apart_finds k =
        let z : like types n m ≡ 1 = rw (sym tested ∙ k) in
        sym (ne_eqb (alike types n) 0 (λ e. omega (arith, z, a.left ∙ more_left m h)))

  pub apart_ends : (m : ℕ) → Apart types n m → n ≤ m → true ≡ eqb (alike types n) 0
  unfolding total
  apart_ends m a h = let e : n - m ≡ 0 = omega arith in sym (eq-eqb (alike types n) 0 (a.left ∙ ap (total (like types n) m) e))

pub ruleset entering = (apart_starts, apart_goes_on, apart_finds, apart_ends)
