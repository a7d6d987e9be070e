-- The pass over the links: where it stands, how it counts, and that a record can be judged where it comes to it. `counting` for search.
use Prim.Native.Nat.{ℕ, zero, suc, ◌+◌, ◌*◌, ◌-◌, ◌≤◌, ◌<◌}
use native.Mathlib.Omega.{arith}
use mathlib.Core.Bool.{Bool, true}
use mathlib.Core.List.{List}
use mathlib.Core.Path.{◌≡◌, refl, sym, ap, ap₂, ◌∙◌}
use lib.Dec.{eqb}
use lib.ListN.{length, get_or, replicate, length-replicate}
use Rattle.rules.specs.Lists.{total}
use Rattle.rules.specs.Format.{Record, most_records}
use Rattle.rules.specs.Links.{first_of, next_of}
use Rattle.rules.specs.Conditions.{holds}
use Rattle.rules.specs.Check.{is, naming, links_rule}
use Rattle.rules.proofs.General.{picked}
use Rattle.rules.proofs.Tests.{holding}
use Rattle.rules.proofs.Sums.{is_other, total_split, total_none}
use Rattle.rules.proofs.Tree.{first_le, first_above, next_le, next_above}
use Rattle.records.specs.declared.Record.{Record as Read}
use Rattle.records.specs.Places.{IsRecord}
use Rattle.links.specs.Counters.{bumped, CanBump, CanJudge}
use Rattle.links.proofs.Bumping.{bumped_length, bumped_at}

-- How many links of record n name record m, and how many of the first n records.
abbrev pub links_to : List Record → ℕ → ℕ → ℕ
links_to rs m n = is (first_of rs n) m + is (next_of rs n) m

unfoldable pub naming_among : List Record → ℕ → ℕ → ℕ
naming_among rs n m = total (links_to rs m) 1 n

-- The links of the first n records are counted.
pub record Counting (rs : List Record) (n : ℕ) (counts : List ℕ) : Type 0 where
  pub few : length rs ≤ most_records
  pub most : n ≤ length rs
  pub room : length rs ≤ length counts
  pub at : (k : ℕ) → get_or counts k 0 ≡ naming_among rs n (k + 1)

-- Links go up, so that only records before it name a record.
not_below : (m n x : ℕ) → 1 ≤ m → m ≤ n → (0 < x → n < x) → is x m ≡ 0
not_below m n x h k above = is_other x m (λ e. omega (arith, above (omega arith)))

named_before : (rs : List Record) (n : ℕ) → n < length rs → naming_among rs n (n + 1) ≡ naming rs (n + 1)
unfolding naming_among
named_before rs n l =
    let m = n + 1 in
    let whole : n + (length rs - n) ≡ length rs = omega arith in
    let none = total_none (links_to rs m) (1 + n) (length rs - n)
    (λ k h. omega (arith, not_below m k (first_of rs k) (omega arith) (omega arith) (first_above rs k), not_below m k (next_of rs k) (omega arith) (omega arith) (next_above rs k))) in
    omega (arith, none, total_split (links_to rs m) 1 n (length rs - n), ap (total (links_to rs m) 1) whole)

-- One record more.
one_more : (rs : List Record) (n m : ℕ) → naming_among rs (n + 1) m ≡ naming_among rs n m + links_to rs m (n + 1)
unfolding naming_among total
one_more rs n m = let q : 1 + n ≡ n + 1 = omega arith in omega (arith, rw q at (total_split (links_to rs m) 1 n 1))

-- A record has two links, so that no counter is above twice the records passed.
is_most : (m n : ℕ) → is m n ≤ 1
is_most m n = picked (λ x. x ≤ 1) (eqb m n) (λ _. omega arith) (λ _. omega arith)

total_most : (f : ℕ → ℕ) → ((m : ℕ) → f m ≤ 2) → (from n : ℕ) → total f from n ≤ 2 * n
unfolding total
total_most f h from zero = omega arith
total_most f h from (suc n) = omega (arith, h from, total_most f h (suc from) n)

naming_most : (rs : List Record) (n m : ℕ) → naming_among rs n m ≤ 2 * n
unfolding naming_among
naming_most rs n m = total_most (links_to rs m) (λ k. omega (arith, is_most (first_of rs k) m, is_most (next_of rs k) m)) 1 n

-- The pass starts with counters of 0, as many as there can be records.
zero_each : (n k : ℕ) → get_or {A = ℕ} (replicate n 0) k 0 ≡ 0
zero_each zero k = refl
zero_each (suc n) zero = refl
zero_each (suc n) (suc k) = zero_each n k

pub count_starts : (rs : List Record) → length rs ≤ most_records → Counting rs 0 (replicate most_records 0)
unfolding naming_among total
count_starts rs h = record { few = h; most = omega arith; room = rw (length-replicate {A = ℕ} most_records 0) h; at = zero_each most_records }

-- r, record n as it was read, holds what its links name.
pub record Names (rs : List Record) (n : ℕ) (r : Read) : Type 0 where
  pub first : r.first ≡ first_of rs n
  pub next : r.next ≡ next_of rs n

pub names_told : (rs : List Record) (n : ℕ) (r : Read) (b : Bool) → b ≡ holds (links_rule rs n) → b ≡ true → IsRecord rs n r → Names rs n r
names_told rs n r b told kept e =
    let h = holding (links_rule rs n) (rw (sym told ∙ kept) tt) in
    record { first = ap (λ x. x.first) e.is ∙ h.0; next = ap (λ x. x.next) e.is ∙ h.1.0 }

-- The next record of the pass, which can be judged and whose two links are counted.
module _ (rs : List Record) (n : ℕ) (counts : List ℕ) (c : Counting rs n counts) (l : n < length rs) where
  pub can_judge : CanJudge rs counts (n + 1)
  can_judge = let p : n + 1 - 1 ≡ n = omega arith in record {
    few = omega (arith, c.few);
    within = record { some = omega arith; most = omega arith };
    room = omega (arith, c.room);
    counted = rw p (c.at n ∙ named_before rs n l);
  }

  module _ (r : Read) (d : Names rs (n + 1) r) where
    pub first_counts : CanBump counts r.first
    first_counts = record {
      room = omega (arith, d.first, first_le rs (n + 1), c.room);
      small = omega (arith, c.at (r.first - 1), naming_most rs n (r.first - 1 + 1), c.few);
    }

    module _ (counts₁ : List ℕ) (e : counts₁ ≡ bumped counts r.first) where
      at_first : (k : ℕ) → get_or counts₁ k 0 ≡ naming_among rs n (k + 1) + is (first_of rs (n + 1)) (k + 1)
      at_first k = ap (λ x. get_or x k 0) e ∙ bumped_at counts r.first first_counts.room k ∙ ap₂ (λ x y. x + is y (k + 1)) (c.at k) d.first

      room_first : length rs ≤ length counts₁
      room_first = omega (arith, c.room, ap length e ∙ bumped_length counts r.first)

      pub next_counts : CanBump counts₁ r.next
      next_counts = record {
        room = omega (arith, d.next, next_le rs (n + 1), room_first);
        small = omega (arith, at_first (r.next - 1), naming_most rs n (r.next - 1 + 1), is_most (first_of rs (n + 1)) (r.next - 1 + 1), c.few);
      }

      pub count_goes_on : (counts₂ : List ℕ) → counts₂ ≡ bumped counts₁ r.next → Counting rs (n + 1) counts₂
      count_goes_on counts₂ g = record {
        few = c.few;
        most = omega arith;
        room = omega (arith, room_first, ap length g ∙ bumped_length counts₁ r.next);
        at = λ k. ap (λ x. get_or x k 0) g ∙ bumped_at counts₁ r.next next_counts.room k ∙ (omega (arith, at_first k, ap (λ x. is x (k + 1)) d.next, one_more rs n (k + 1)));
      }

pub ruleset counting = (can_judge, names_told, first_counts, next_counts, count_goes_on)
