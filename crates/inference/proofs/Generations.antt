-- Links go up, so that as many generations as there are records are all: with more of them inference comes to the same, and one record's is told by its children's.
use Prim.Native.Nat.{ℕ, zero, suc, ◌+◌, ◌≤◌, ◌<◌}
use native.Mathlib.Omega.{arith}
use mathlib.Core.List.{List}
use mathlib.Core.Path.{◌≡◌, refl, sym}
use lib.ListN.{length}
use Rattle.rules.specs.Kinds.{kind_of}
use Rattle.rules.specs.Types.{Table}
use Rattle.rules.specs.Binders.{over_first, over_second}
use Rattle.rules.specs.Typing.{Env, under, first_level}
use Rattle.rules.specs.Format.{Record, record_no}
use Rattle.rules.specs.Links.{first_of, next_of}
use Rattle.rules.proofs.Tree.{first_le, next_le, first_above, second_above, third_above}
use Rattle.inference.specs.Inference.{Inference, filled, no_term, assigned, in_order, inferred_from}

module _ (rs : List Record) where
  -- No record, no tree: nothing is inferred.
  pub inferred_nothing : (left : ℕ) (A : Table) (Γ : Env) (l : ℕ) → inferred_from left A rs Γ l 0 ≡ filled A no_term
  unfolding inferred_from
  inferred_nothing zero A Γ l = refl
  inferred_nothing (suc left) A Γ l = refl

  -- Record n after its children, each inferred to a number of generations.
  abbrev pub node_from : ℕ → Table → Env → ℕ → ℕ → Inference
  node_from left A Γ l n =
      let f = (record_no rs n).fields in
      let k = kind_of (record_no rs n).kind in
      in_order
      (λ B. inferred_from left B rs (under l (over_first k f) Γ) (first_level k l) (first_of rs n))
      (λ B. inferred_from left B rs (under 0 (over_second k f) Γ) l (next_of rs (first_of rs n)))
      (λ B. inferred_from left B rs Γ l (next_of rs (next_of rs (first_of rs n))))
      (λ B c s e. assigned B Γ l k f n c s e) A

  -- One generation more than it takes from record n to the last.
  one_more : (left n : ℕ) (A : Table) (Γ : Env) (l : ℕ) → n ≤ length rs → (0 < n → length rs < n + left) → inferred_from (suc left) A rs Γ l n ≡ inferred_from left A rs Γ l n
  unfolding inferred_from
  one_more zero zero A Γ l b r = refl
  one_more zero (suc m) A Γ l b r = absurd (omega (arith, r (omega arith)))
  one_more (suc left) zero A Γ l b r = refl
  one_more (suc left) (suc m) A Γ l b r =
      let n = suc m in
      let f = (record_no rs n).fields in
      let k = kind_of (record_no rs n).kind in
      let c = first_of rs n in
      let s = next_of rs c in
      let h = r (omega arith) in
      λ i. in_order
      (λ B. one_more left c B (under l (over_first k f) Γ) (first_level k l) (first_le rs n) (λ p. omega (arith, first_above rs n p)) i)
      (λ B. one_more left s B (under 0 (over_second k f) Γ) l (next_le rs c) (λ p. omega (arith, second_above rs n p)) i)
      (λ B. one_more left (next_of rs s) B Γ l (next_le rs s) (λ p. omega (arith, third_above rs n p)) i)
      (λ B c s e. assigned B Γ l k f n c s e) A

  -- A record's inference, all generations below it, is that of its children and then its own.
  pub inferred_node : (n : ℕ) (A : Table) (Γ : Env) (l : ℕ) → 1 ≤ n → n ≤ length rs → inferred_from (length rs) A rs Γ l n ≡ node_from (length rs) A Γ l n
  unfolding inferred_from
  inferred_node zero A Γ l i b = absurd (omega arith)
  inferred_node (suc m) A Γ l i b = sym (one_more (length rs) (suc m) A Γ l b (λ _. omega arith))
