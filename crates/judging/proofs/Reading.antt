-- What the judging reads: an entry of the table by its number, and a binder of the stack by its index.
use Prim.Native.Nat.{ℕ, zero, suc, ◌-◌, ◌*◌, ◌/◌, ◌%◌, ◌≤◌, ◌<◌}
use native.Mathlib.Omega.{arith}
use mathlib.Core.Path.{◌≡◌, sym, ap, ◌∙◌}
use mathlib.Core.List.{List, ◌∷◌}
use lib.ListN.{length, get_or, get_or-eq_default}
use Rattle.rules.specs.Types.{no_entry}
use Rattle.rules.specs.Typing.{binder, bind}
use Rattle.records.specs.declared.Entry.{Entry}
use Rattle.records.specs.View.{entries_in}
use Rattle.records.specs.Meant.{entry_meant}
use Rattle.records.specs.Places.{Within, IsEntry}
use Rattle.records.proofs.Entries.{entries_length}
use Rattle.judging.specs.declared.Binder.{Binder as Held}
use Rattle.judging.specs.Stack.{binder_meant, stack}
use Rattle.judging.specs.Stack.{no_binder as none}
use Rattle.judging.specs.Tests.{IsBinder}
use Rattle.judging.proofs.Stacking.{stack_length}

-- Number 0 and a number past the table are no entries; another is one.
module _ (s : List ℕ) (n : ℕ) where
  module _ (none : Entry) (is_none : entry_meant none ≡ no_entry) where
    pub zero_no_entry : n ≡ 0 → IsEntry (entries_in s) n none
    zero_no_entry e = record { is = rw e is_none }

    pub no_entry_beyond : length s < 6 * n → IsEntry (entries_in s) n none
    no_entry_beyond h = record { is = is_none ∙ sym (get_or-eq_default (no_entry ∷ entries_in s) no_entry {n = n} (omega (arith, entries_length s))) }

  pub entry_there : (n ≡ 0 → ⊥) → 6 * n ≤ length s → Within (entries_in s) n
  entry_there z h = record { some = omega arith; most = omega (arith, entries_length s) }

-- A binder of the stack, by its index.
stack_at : (bs : List Held) (d i : ℕ) → i < d → binder (stack bs d) i ≡ binder_meant (get_or bs (d - 1 - i) none)
unfolding stack
stack_at bs zero i h = absurd (omega arith)
stack_at bs (suc d) zero h = let e : d ≡ suc d - 1 - 0 = omega arith in ap (λ j. binder_meant (get_or bs j none)) e
stack_at bs (suc d) (suc i) h =
    let e : d - 1 - i ≡ suc d - 1 - suc i = omega arith in
    stack_at bs d i (omega arith) ∙ ap (λ j. binder_meant (get_or bs j none)) e

module _ (bs : List Held) (d i : ℕ) where
  pub binder_read : i < d → IsBinder (stack bs d) i (get_or bs (d - 1 - i) none)
  binder_read h = record { is = sym (stack_at bs d i h) }

  pub no_binder : d ≤ i → IsBinder (stack bs d) i (record { level = 2; ty = 0 })
  no_binder h = record { is = sym (get_or-eq_default (stack bs d) (bind 2 0) {n = i} (omega (arith, stack_length bs d))) }
