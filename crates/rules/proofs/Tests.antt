-- The tests decide the rules, and a table with no entry twice has no twins.
use Prim.Native.Nat.{ℕ, zero, suc, ◌+◌, ◌≤◌, ◌<◌}
use native.Mathlib.Omega.{arith}
use native.Mathlib.Decide.{dec_lt}
use mathlib.Core.List.{[], ◌∷◌}
use mathlib.Core.Bool.{Bool, true, false, ◌&&◌}
use mathlib.Core.Option.{Option, none, some}
use mathlib.Core.Path.{◌≡◌, refl}
use lib.Dec.{T, eqb, leb, eqb→eq, eqb_refl, ltb→lt, lt→ltb, leb→le, le→leb}
use mir.Facts.{and_yes, yes_and}
use Rattle.rules.specs.Lists.{pick}
use Rattle.rules.specs.Conditions.{Condition, between, anything, below, equal, Met, met, Rule, Holds, holds, same}
use Rattle.rules.specs.Refusals.{Refusal, unless, ◌then◌, lowest}
use Rattle.rules.proofs.General.{is_true}

pub meets : (c : Condition) → T (met c) → Met c
meets anything t = tt
meets (below m n) t = ltb→lt m n t
meets (between m x n) t = let (h, k) = and_yes (leb m x) (leb x n) t in (leb→le m x h, leb→le x n k)
meets (equal m n) t = eqb→eq m n t
meets (same x y) t =
    let (k, r) = and_yes (eqb x.kind y.kind) (eqb x.a y.a && eqb x.b y.b) t in
    let (a, b) = and_yes (eqb x.a y.a) (eqb x.b y.b) r in
    λ i. record { kind = eqb→eq x.kind y.kind k i; a = eqb→eq x.a y.a a i; b = eqb→eq x.b y.b b i }

pub passes : (c : Condition) → Met c → T (met c)
passes anything h = tt
passes (below m n) h = lt→ltb m n h
passes (between m x n) (h, k) = yes_and (leb m x) (leb x n) (le→leb m x h) (le→leb x n k)
passes (equal m n) h = rw h (eqb_refl n)
passes (same x y) h = rw h (yes_and (eqb y.kind y.kind) (eqb y.a y.a && eqb y.b y.b) (eqb_refl y.kind)
    (yes_and (eqb y.a y.a) (eqb y.b y.b) (eqb_refl y.a) (eqb_refl y.b)))

pub holding : (r : Rule) → T (holds r) → Holds r
holding [] t = tt
holding (c ∷ r) t = let (h, k) = and_yes (met c) (holds r) t in (meets c h, holding r k)

pub passing : (r : Rule) → Holds r → T (holds r)
passing [] h = tt
passing (c ∷ r) (h, k) = yes_and (met c) (holds r) (passes c h) (passing r k)

-- An option that gives something gives not nothing.
pub never : {A : Type 0} {x : A} → ◌≡◌ {A = Option A} (some x) none → ⊥
never e = let z : ◌≡◌ {A = ℕ} 0 1 = cc in omega arith

-- A check that refuses nothing.
pub both_pass : (x y : Option Refusal) → x then y ≡ none → (x ≡ none) × (y ≡ none)
unfolding ◌then◌
both_pass none y e = (refl, e)
both_pass (some r) y e = absurd (never e)

pub pass_both : {x y : Option Refusal} → x ≡ none → y ≡ none → x then y ≡ none
unfolding ◌then◌
pass_both e d = rw e d

pub holds_unless : (r : Rule) (n p : ℕ) → unless r n p ≡ none → Holds r
unfolding unless
holds_unless r n p e = holding r (go (holds r) e)
  where
    go : (b : Bool) → pick {A = Option Refusal} b none (some (record { number = n; place = p })) ≡ none → T b
    go true e = tt
    go false e = never e

pub unless_holds : (r : Rule) (n p : ℕ) → Holds r → unless r n p ≡ none
unfolding unless
unless_holds r n p h = rw (is_true (holds r) (passing r h))

pub holds_lowest : (rule : ℕ → Rule) (n from count : ℕ) → lowest rule n from count ≡ none → (m : ℕ) → from ≤ m → m < from + count → Holds (rule m)
unfolding lowest
holds_lowest rule n from zero e m h k = absurd (omega arith)
holds_lowest rule n from (suc count) e m h k =
    let (x, y) = both_pass _ _ e in
    elim (dec_lt from m) [
      | yes l ↦ holds_lowest rule n (suc from) count y m l (omega arith)
      | no l ↦ let i : m ≡ from = omega arith in rw i (holds_unless (rule from) n from x)
    ]

pub lowest_holds : (rule : ℕ → Rule) (n from count : ℕ) → ((m : ℕ) → from ≤ m → m < from + count → Holds (rule m)) → lowest rule n from count ≡ none
unfolding lowest
lowest_holds rule n from zero h = refl
lowest_holds rule n from (suc count) h = pass_both (unless_holds (rule from) n from (h from (omega arith) (omega arith))) (lowest_holds rule n (suc from) count (λ m i j. h m (omega arith) (omega arith)))
