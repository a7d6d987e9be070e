-- Counters when one more link is counted. `bumping` for search.
use Prim.Native.Nat.{ℕ, ◌+◌, ◌-◌, ◌≤◌}
use native.Mathlib.Omega.{arith}
use native.Mathlib.Decide.{ℕ_discrete}
use mathlib.Core.List.{List}
use mathlib.Core.Path.{◌≡◌, ap, sym, ◌∙◌}
use lib.ListN.{length, get_or, set, length-set}
use lib.Seq.{get_or-set_same, get_or-set_other}
use borrow.Author.Tests.{eq-eqb, ne_eqb}
use Rattle.rules.specs.Check.{is}
use Rattle.rules.proofs.Sums.{is_same, is_other}
use Rattle.links.specs.Counters.{bumped}

-- What the code makes of the counters.
pub bumped_none : (counts : List ℕ) (m : ℕ) → m ≡ 0 → counts ≡ bumped counts m
unfolding bumped
bumped_none counts m e = rw (eq-eqb m 0 e)

pub bumped_one : (counts : List ℕ) (m : ℕ) → (m ≡ 0 → ⊥) → set counts (m - 1) (get_or counts (m - 1) 0 + 1) ≡ bumped counts m
unfolding bumped
bumped_one counts m h = rw (ne_eqb m 0 h)

pub ruleset bumping = (bumped_none, bumped_one)

-- There are as many counters, and each is higher by the links that name its record.
pub bumped_length : (counts : List ℕ) (m : ℕ) → length (bumped counts m) ≡ length counts
bumped_length counts m = elim (ℕ_discrete m 0) [
  | yes z ↦ sym (ap length (bumped_none counts m z))
  | no z ↦ sym (ap length (bumped_one counts m z)) ∙ length-set counts (m - 1) (get_or counts (m - 1) 0 + 1)
]

set_at : (counts : List ℕ) (m k : ℕ) → 1 ≤ m → m ≤ length counts → get_or (set counts (m - 1) (get_or counts (m - 1) 0 + 1)) k 0 ≡ get_or counts k 0 + is m (k + 1)
set_at counts m k o h = elim (ℕ_discrete k (m - 1)) [
  | yes d ↦ let e : m - 1 + 1 ≡ m = omega arith in rw (d, e, get_or-set_same counts (m - 1) (get_or counts (m - 1) 0 + 1) 0 (omega arith), is_same m)
  | no d ↦ rw (get_or-set_other counts (m - 1) k (get_or counts (m - 1) 0 + 1) 0 d, is_other m (k + 1) (λ e. d (omega arith))) (omega arith)
]

pub bumped_at : (counts : List ℕ) (m : ℕ) → m ≤ length counts → (k : ℕ) → get_or (bumped counts m) k 0 ≡ get_or counts k 0 + is m (k + 1)
bumped_at counts m h k = elim (ℕ_discrete m 0) [
  | yes z ↦ rw (← bumped_none counts m z, is_other m (k + 1) (λ e. omega arith)) (omega arith)
  | no z ↦ rw (← bumped_one counts m z) (set_at counts m k (omega arith) h)
]
