-- How indices move, in small theorems and worked examples of each change of `Indices`.
use Prim.Native.Nat.{ℕ, ◌+◌, ◌-◌, ◌≤◌, ◌<◌}
use native.Mathlib.Omega.{arith}
use mathlib.Core.List.{List, [], ◌∷◌}
use mathlib.Core.Path.{◌≡◌, refl}
use lib.ListN.{length, get_or}
use borrow.Author.Tests.{lt-ltb, le-ltb}
use Rattle.rules.specs.Kinds.{variable}
use Rattle.rules.specs.Terms.{Fields, Term, leaf}
use Rattle.rules.specs.Indices.{with_index, raised_index, lowered_index, replacement, changed, raised, replaced, wrapped}
use Rattle.rules.specs.BenchSheet.{nat, nat_to_nat, nat_code, num, var, fun, app, spl, identity}

-- "A tree put under more binders has its free indices raised by their number": under d binders of the tree's own, an index below d is not free.
module _ (n d i : ℕ) where
  pub raised_bound : i < d → raised_index n d i ≡ i
  raised_bound h = rw (lt-ltb i d h)

  pub raised_free : d ≤ i → raised_index n d i ≡ i + n
  raised_free h = rw (le-ltb i d h)

-- "Indices that pointed beyond removed binders fall by theirs": m binders are removed next to d binders of the tree's own. An index below d stays,
-- one from d to d + m - 1 is replaced by the tree that stands for it, raised by d, and one beyond falls by m.
module _ (ts : List Term) (d : ℕ) (f : Fields) where
  pub replaced_bound : f.a < d → replacement ts d f ≡ leaf variable f
  replaced_bound h = rw (lt-ltb f.a d h)

  pub replaced_removed : d ≤ f.a → f.a < d + length ts → replacement ts d f ≡ raised d (get_or ts (f.a - d) (leaf variable f))
  replaced_removed h k = rw (le-ltb f.a d h, lt-ltb f.a (d + length ts) k)

  pub replaced_beyond : d + length ts ≤ f.a → replacement ts d f ≡ leaf variable (with_index f (f.a - length ts))
  replaced_beyond h = rw (le-ltb f.a d (omega arith), le-ltb f.a (d + length ts) h)

-- "The index of kind 10 moves likewise and is never replaced": beyond the removed binders it falls by their number.
pub lowered_beyond : (m d i : ℕ) → d + m ≤ i → lowered_index m d i ≡ i - m
lowered_beyond m d i h = rw (le-ltb i d (omega arith))

-- (function Nat: 0) 2, put under three more binders: its own variable stays, the free one becomes 5.
pub raising_example : raised 3 (app nat identity (var nat 2)) ≡ app nat identity (var nat 5)
unfolding raised changed
raising_example = refl

-- In the body (function Nat: 1) 0 the function's variable, 0, gives way to 7, also under the binder, where it is 1.
pub replacing_example : replaced (num 7 ∷ []) (app nat (fun nat_to_nat nat (var nat 1)) (var nat 0)) ≡ app nat (fun nat_to_nat nat (num 7)) (num 7)
unfolding replaced raised changed
replacing_example = refl

-- The tree that is put in is open: its free index is raised under the binder. What pointed beyond the removed binder falls.
pub replacing_open_example : replaced (var nat 4 ∷ []) (fun nat_to_nat nat (app nat (var nat_to_nat 3) (var nat 1))) ≡ fun nat_to_nat nat (app nat (var nat_to_nat 2) (var nat 5))
unfolding replaced raised changed
replacing_open_example = refl

-- Both together: index 0 gets the first, index 1 the second, and neither is looked at again.
pub replacing_two_example : replaced (var nat 1 ∷ var nat_to_nat 0 ∷ []) (app nat (var nat_to_nat 1) (var nat 0)) ≡ app nat (var nat_to_nat 0) (var nat 1)
unfolding replaced raised changed
replacing_two_example = refl

-- In e's body (function Nat: 1) 2 the variable that e binds, which is 1 under the binder, is wrapped and keeps its index; other variables stay.
pub wrapping_example : wrapped nat_code (app nat (fun nat_to_nat nat (var nat 1)) (var nat 2)) ≡ app nat (fun nat_to_nat nat (spl nat (var nat_code 1))) (var nat 2)
unfolding wrapped changed
wrapping_example = refl
