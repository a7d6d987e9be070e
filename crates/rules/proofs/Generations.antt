-- Links go up, so that as many generations as there are records are all: with more of them the walk says the same.
use Prim.Native.Nat.{ℕ, zero, suc, ◌+◌, ◌≤◌, ◌<◌}
use native.Mathlib.Omega.{arith}
use native.Mathlib.Decide.{dec_lt}
use mathlib.Core.List.{List}
use mathlib.Core.Path.{◌≡◌, refl, ◌∙◌}
use lib.ListN.{length}
use Rattle.rules.specs.Types.{Table}
use Rattle.rules.specs.Kinds.{kind_of}
use Rattle.rules.specs.Binders.{over_first, over_second}
use Rattle.rules.specs.Typing.{Env, under, first_level}
use Rattle.rules.specs.Format.{Record, record_no}
use Rattle.rules.specs.Links.{first_of, next_of}
use Rattle.rules.specs.Check.{walked}
use Rattle.rules.proofs.Tree.{first_le, next_le, first_above, second_above, third_above}

module _ (types : Table) (rs : List Record) where
  -- One more than it takes from record n to the last.
  one_more : (left n : ℕ) (Γ : Env) (l : ℕ) → n ≤ length rs → (0 < n → length rs < n + left) → walked (suc left) types rs Γ l n ≡ walked left types rs Γ l n
  unfolding walked
  one_more zero zero Γ l b r = refl
  one_more zero (suc m) Γ l b r = absurd (omega (arith, r (omega arith)))
  one_more (suc left) zero Γ l b r = refl
  one_more (suc left) (suc m) Γ l b r =
      let n = suc m in
      let f = (record_no rs n).fields in
      let k = kind_of (record_no rs n).kind in
      let c = first_of rs n in
      let s = next_of rs c in
      let h = r (omega arith) in
      rw (
        one_more left c (under l (over_first k f) Γ) (first_level k l) (first_le rs n) (λ p. omega (arith, first_above rs n p)),
        one_more left s (under 0 (over_second k f) Γ) l (next_le rs c) (λ p. omega (arith, second_above rs n p)),
        one_more left (next_of rs s) Γ l (next_le rs s) (λ p. omega (arith, third_above rs n p)),
      )

  -- As many as there are records, or more.
  pub all_generations : (left n : ℕ) (Γ : Env) (l : ℕ) → n ≤ length rs → length rs ≤ left → walked left types rs Γ l n ≡ walked (length rs) types rs Γ l n
  all_generations zero n Γ l b r = let e : 0 ≡ length rs = omega arith in rw (← e)
  all_generations (suc left) n Γ l b r = elim (dec_lt left (length rs)) [
    | yes h ↦ let e : suc left ≡ length rs = omega arith in rw e
    | no h ↦ one_more left n Γ l b (λ p. omega arith) ∙ all_generations left n Γ l b (omega arith)
  ]
