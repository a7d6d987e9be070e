-- Numbers are counted from 1, places from 0: `placing` for search. Assumes nothing.
use Prim.Native.Nat.{ℕ, zero, suc, ◌+◌, ◌-◌, ◌<◌}
use native.Mathlib.Omega.{arith}
use mathlib.Core.List.{List, ◌∷◌}
use mathlib.Core.Path.{◌≡◌, refl, ap, ◌∙◌}
use lib.ListN.{length, get_or}
use Rattle.rules.specs.Types.{Table, no_entry}
use Rattle.rules.specs.Format.{Record as MeantRecord, no_record}
use Rattle.rules.proofs.Tree.{next_le}
use Rattle.records.specs.declared.Entry.{Entry}
use Rattle.records.specs.declared.Record.{Record}
use Rattle.records.specs.Meant.{entry_meant, record_meant}
use Rattle.records.specs.Places.{Within, IsEntry, IsRecord, InChain, Follows}

module _ {A : Type 0} (xs : List A) where
  -- What has number n.
  from_one : (x d : A) (n : ℕ) → Within xs n → x ≡ get_or xs (n - 1) d → x ≡ get_or (d ∷ xs) n d
  from_one x d zero w e = absurd (omega (arith, w.some))
  from_one x d (suc n) w e = let p : suc n - 1 ≡ n = omega arith in rw p at e

  -- The next number of a scan.
  pub within_next : (n count : ℕ) → length xs ≡ count → n < count → Within xs (n + 1)
  within_next n count e h = record { some = omega arith; most = omega arith }

pub is_entry_lem : (types : Table) (n : ℕ) (e : Entry) → Within types n → entry_meant e ≡ get_or types (n - 1) no_entry → IsEntry types n e
is_entry_lem types n e w h = record { is = from_one types (entry_meant e) no_entry n w h }

module _ (rs : List MeantRecord) (n : ℕ) where
  pub is_record : (r : Record) → Within rs n → record_meant r ≡ get_or rs (n - 1) no_record → IsRecord rs n r
  is_record r w h = record { is = from_one rs (record_meant r) no_record n w h }

  -- What follows in a chain: nothing after 0, else what the record's link says.
  pub follows_none : n ≡ 0 → Follows rs n 0
  follows_none e = rw e (record { is = refl })

  pub in_chain_within : InChain rs n → (n ≡ 0 → ⊥) → Within rs n
  in_chain_within h z = record { some = omega arith; most = h.most }

  pub follows_link : (r : Record) → InChain rs n → (n ≡ 0 → ⊥) → IsRecord rs n r → Follows rs n r.next
  follows_link r h z e = record { is = ap (λ x. x.next) e.is ∙ h.good.next n (omega arith) h.most }

  pub next_in_chain : (m : ℕ) → InChain rs n → Follows rs n m → InChain rs m
  next_in_chain m h f = record { good = h.good; most = rw f.is (next_le rs n) }

pub ruleset placing = (within_next, is_entry_lem, is_record, follows_none, in_chain_within, follows_link, next_in_chain)
