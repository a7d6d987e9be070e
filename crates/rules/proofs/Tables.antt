-- The type table: which numbers are entries, and that equal types have equal numbers.
use Prim.Native.Nat.{ℕ, zero, suc, ◌≤◌, ◌<◌}
use native.Mathlib.Omega.{arith}
use native.Mathlib.Decide.{dec_lt}
use mathlib.Core.Path.{◌≡◌, ap, sym, ◌∙◌}
use lib.ListN.{length, get_or, get_or-eq_default}
use Rattle.rules.specs.Types.{Table, Entry, no_entry, entry, NoTwins}
use Rattle.rules.specs.Conditions.{Met}
use Rattle.rules.specs.FieldUses.{is_entry}

-- No entry is like another.
abbrev pub Distinct : Table → Type 0
Distinct types = (m n : ℕ) → m < length types → n < length types → get_or types m no_entry ≡ get_or types n no_entry → m ≡ n

pub in_table : (types : Table) (m : ℕ) (x : Entry) → 0 < x.kind → get_or types m no_entry ≡ x → m < length types
in_table types m x k e = elim (dec_lt m (length types)) [
  | yes h ↦ h
  | no h ↦ absurd (let le : length types ≤ m = omega arith in omega (arith, ap (λ r. r.kind) (sym e ∙ get_or-eq_default types no_entry le)))
]

pub no_twins : (types : Table) → Distinct types → NoTwins types
no_twins types d zero n x k e e' = absurd (omega (arith, ap (λ r. r.kind) e))
no_twins types d (suc m) zero x k e e' = absurd (omega (arith, ap (λ r. r.kind) e'))
no_twins types d (suc m) (suc n) x k e e' = ap suc (d m n (in_table types m x k e) (in_table types n x k e') (e ∙ sym e'))

-- What is an entry has its number in the table.
pub entry_in : (types : Table) (n : ℕ) {x : Entry} → entry types n ≡ x → 0 < x.kind → Met (is_entry types n)
entry_in types zero e k = absurd (omega (arith, ap (λ r. r.kind) e))
entry_in types (suc n) {x} e k = (omega arith, in_table types n x k e)
