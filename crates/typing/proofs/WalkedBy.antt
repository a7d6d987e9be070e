-- The walk's definition: a record's own checks come first, then the trees of its three children.
use Prim.Native.Nat.{ℕ, zero, suc, ◌≤◌}
use native.Mathlib.Omega.{arith}
use mathlib.Core.Path.{◌≡◌, refl, sym}
use mathlib.Core.List.{List}
use mathlib.Core.Option.{Option, none, some}
use lib.ListN.{length}
use Rattle.rules.specs.Kinds.{Kind}
use Rattle.rules.specs.Terms.{Fields}
use Rattle.rules.specs.Types.{Table}
use Rattle.rules.specs.Conditions.{Rule, holds}
use Rattle.rules.specs.Binders.{over_first, over_second}
use Rattle.rules.specs.Typing.{Env, under, first_level, bound, placed, typed}
use Rattle.rules.specs.Format.{Record}
use Rattle.rules.specs.Links.{first_of, next_of}
use Rattle.rules.specs.Check.{judged, walked}
use Rattle.rules.specs.Refusals.{Refusal, bad_index, bad_level, bad_type, unless, ◌then◌}
use Rattle.rules.proofs.General.{picked}
use Rattle.rules.proofs.Generations.{all_generations}
use Rattle.typing.specs.Reading.{second_of, third_of, kind_no, fields_no}
use Rattle.typing.specs.Walking.{OfJudging, judged_at}

module _ (types : Table) (rs : List Record) (Γ : Env) (l : ℕ) where
  -- The checks of record n from the tree of its third child on, of its second, and of its first.
  unfoldable pub from_third : ℕ → Option Refusal
  from_third n = walked (length rs) types rs Γ l (third_of rs n)

  unfoldable pub from_second : ℕ → Option Refusal
  from_second n = walked (length rs) types rs (under 0 (over_second (kind_no rs n) (fields_no rs n)) Γ) l (second_of rs n) then from_third n

  unfoldable pub from_first : ℕ → Option Refusal
  from_first n = walked (length rs) types rs (under l (over_first (kind_no rs n) (fields_no rs n)) Γ) (first_level (kind_no rs n) l) (first_of rs n) then from_second n

  pub walked_by : (n : ℕ) → 1 ≤ n → n ≤ length rs → walked (length rs) types rs Γ l n ≡ judged_at types rs Γ l n then from_first n
  unfolding walked judged_at from_first from_second from_third
  walked_by zero real within = absurd (omega arith)
  walked_by (suc m) real within = sym (all_generations types rs (suc (length rs)) (suc m) Γ l within (omega arith))

  -- Nothing is said of no record.
  walked_nothing : (n : ℕ) → n ≡ 0 → walked (length rs) types rs Γ l n ≡ none
  unfolding walked
  walked_nothing n e = rw e (go (length rs))
    where
      go : (left : ℕ) → walked left types rs Γ l 0 ≡ none
      go zero = refl
      go (suc left) = refl

-- No record follows none, so that nothing is said from a child on that is not there.
next_nothing : (rs : List Record) (n : ℕ) → n ≡ 0 → next_of rs n ≡ 0
next_nothing rs n e = rw e refl

module _ (types : Table) (rs : List Record) (Γ : Env) (l n : ℕ) where
  pub third_nothing : third_of rs n ≡ 0 → from_third types rs Γ l n ≡ none
  unfolding from_third
  third_nothing e = walked_nothing types rs Γ l (third_of rs n) e

  pub second_nothing : second_of rs n ≡ 0 → from_second types rs Γ l n ≡ none
  unfolding from_second ◌then◌
  second_nothing e = rw (walked_nothing types rs (under 0 (over_second (kind_no rs n) (fields_no rs n)) Γ) l (second_of rs n) e) (third_nothing (next_nothing rs (second_of rs n) e))

  pub first_nothing : first_of rs n ≡ 0 → from_first types rs Γ l n ≡ none
  unfolding from_first ◌then◌
  first_nothing e =
      rw (walked_nothing types rs (under l (over_first (kind_no rs n) (fields_no rs n)) Γ) (first_level (kind_no rs n) l) (first_of rs n) e)
      (second_nothing (next_nothing rs (first_of rs n) e))

-- Whatever is refused is refused by a number of judging.
then_of_judging : (o p : Option Refusal) → OfJudging o → OfJudging p → OfJudging (o then p)
unfolding ◌then◌
then_of_judging none p h k = k
then_of_judging (some r) p h k = h

unless_of_judging : (rule : Rule) (number place : ℕ) → bad_index ≤ number → number ≤ bad_type → OfJudging (unless rule number place)
unfolding unless
unless_of_judging rule number place h k = picked OfJudging (holds rule) (λ _. tt) (λ _. (h, k))

judged_of_judging : (types : Table) (Γ : Env) (l n : ℕ) (k : Kind) (f : Fields) (x y z : ℕ) → OfJudging (judged types Γ l n k f x y z)
unfolding judged
judged_of_judging types Γ l n k f x y z =
    then_of_judging _ _ (unless_of_judging (bound Γ k f) bad_index n (omega arith) (omega arith))
    (then_of_judging _ _ (unless_of_judging (placed Γ l k f) bad_level n (omega arith) (omega arith)) (unless_of_judging (typed types Γ k f x y z) bad_type n (omega arith) (omega arith)))

pub walked_of_judging : (left : ℕ) (types : Table) (rs : List Record) (Γ : Env) (l n : ℕ) → OfJudging (walked left types rs Γ l n)
unfolding walked
walked_of_judging zero types rs Γ l n = tt
walked_of_judging (suc left) types rs Γ l zero = tt
walked_of_judging (suc left) types rs Γ l (suc m) =
    then_of_judging _ _ (judged_of_judging _ _ _ _ _ _ _ _ _)
    (then_of_judging _ _ (walked_of_judging left types rs _ _ _) (then_of_judging _ _ (walked_of_judging left types rs _ _ _) (walked_of_judging left types rs _ _ _)))
