-- Which records can be faulty by 12, once the type that is wanted is theirs; and which number Nat has.
use Prim.Native.Nat.{ℕ, suc, ◌≤◌, ◌<◌}
use native.Mathlib.Omega.{arith}
use mathlib.Core.List.{[], ◌∷◌}
use mathlib.Core.Logic.{inl, inr, ◌↔◌}
use mathlib.Core.Path.{◌≡◌, refl, sym, ◌∙◌}
use lib.ListN.{length, get_or}
use lib.Seq.{get_or-append_seam}
use Rattle.rules.specs.Kinds.{number, variable, function, fix, lift, quote, splice, application, Kind, leaf₀, unary₁, binary₂}
use Rattle.rules.specs.Terms.{Fields}
use Rattle.rules.specs.Types.{Entry, Table, entry, no_entry, Nat, Fn, Code, part_a, part_b}
use Rattle.rules.specs.Conditions.{Holds}
use Rattle.rules.specs.Typing.{Env, typed}
use Rattle.inference.specs.Inference.{retyped, having, before, made, wanted, table_for, number_for}
use Rattle.inference.proofs.Growing.{Entries, Had, had, same_entry_lem, first_nat}
use Rattle.inference.proofs.Sound.{table_begins}

-- The entry that is made is had.
had_at : (A : Table) (x : Entry) → entry (having A x) (suc (before A x)) ≡ x
had_at A x = go (having A x) (before A x) (had A x)
  where
    go : (B : Table) (n : ℕ) → Had A x B n → get_or B n no_entry ≡ x
    go B n (inl (e, d)) = rw e d
    go B n (inr (e, d, _)) = rw (e, d) (get_or-append_seam A x [] no_entry)

-- Rule 12 of the record with the type that is wanted.
abbrev pub Twelve : Table → Env → Kind → Fields → ℕ → ℕ → ℕ → Type 0
Twelve A Γ k f x y z = let w = wanted A Γ k f x y in Holds (typed (table_for A w) Γ k (retyped (number_for A w) f) x y z)

-- A number, a variable, a function and a quote always keep it.
module _ (A : Table) (Γ : Env) (f : Fields) (x y z : ℕ) where
  pub number_typed : Twelve A Γ (leaf₀ number) f x y z
  number_typed = (had_at A Nat, tt)

  pub variable_typed : Twelve A Γ (leaf₀ variable) f x y z
  variable_typed = (refl, tt)

  pub function_typed : Twelve A Γ (unary₁ function) f x y z
  function_typed = (had_at A (Fn f.a x), tt)

  pub quote_typed : Twelve A Γ (unary₁ quote) f x y z
  quote_typed = (had_at A (Code x), tt)

  -- An application keeps it exactly if its first child is a function that takes the second; a fix, if its child is Fn(p,p); a splice, if its child
  -- is code.
  pub application_typed : Twelve A Γ (binary₂ application) f x y z ↔ (entry A x ≡ Fn y (part_b A x))
  application_typed = (λ h. h.0, λ h. (h, tt))

  pub fix_typed : Twelve A Γ (unary₁ fix) f x y z ↔ (entry A x ≡ Fn (part_a A x) (part_a A x))
  fix_typed = (λ h. h.0, λ h. (h, tt))

  pub splice_typed : Twelve A Γ (unary₁ splice) f x y z ↔ (entry A x ≡ Code (part_a A x))
  splice_typed = (λ h. h.0, λ h. (h, tt))

  -- A lift, if its child is Nat.
  pub lift_typed : x ≤ length A → Twelve A Γ (unary₁ lift) f x y z ↔ (entry A x ≡ Nat)
  lift_typed i =
      let e : entry (having A (Code x)) x ≡ entry A x = same_entry_lem (table_begins A (made (Code x))) x i in
      (λ h. sym e ∙ h.0, λ h. (e ∙ h, (had_at A (Code x), tt)))

-- A number has type 1, and no entry is made for it.
pub number_is_one : (A : Table) → Entries A → 0 < length A → (having A Nat ≡ A) × (before A Nat ≡ 0)
unfolding having before
number_is_one [] good z = absurd (omega arith)
number_is_one (y ∷ ys) good z = let e : y ≡ Nat = first_nat (y ∷ ys) good z in rw (e, having, before) (refl, refl)
