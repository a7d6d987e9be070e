-- `renumber`: the laws of its loop, in which one record a turn gets its numbers. A number once given stays, so that the records before keep theirs. `turning`
-- for search. Assumes nothing.
use Prim.Native.Nat.{ℕ, suc, ◌+◌, ◌≤◌, ◌<◌}
use native.Mathlib.Omega.{arith}
use native.Mathlib.Numerals.{add-one}
use mathlib.Core.List.{List, []}
use mathlib.Core.Path.{◌≡◌, refl, ap, ap₂, sym, ◌∙◌, subst}
use lib.ListN.{length, get_or, set}
use Rattle.rules.specs.Lists.{All, joined}
use Rattle.rules.specs.Format.{Record, no_record}
use Rattle.rules.specs.Types.{Table}
use Rattle.order.specs.FullTypes.{NamesType}
use Rattle.order.specs.Order.{types_of_record, new_number, need_all, renumbered_record}
use Rattle.records.specs.View.{records_in, RecordPut}
use Rattle.order.proofs.Lists.{all_with}
use Rattle.numbering.specs.Numbering.{Numbering, CanNeedRecord, RecordNeeds}
use Rattle.numbering.specs.Renumbering.{CanRenumberRecord, RenumbersRecord, renumbered_front, front_names, front_uses, CanRenumber, Renumbers}
use Rattle.numbering.proofs.Needing.{need_append, seen_nothing, number_kept, all_numbered}
use Rattle.numbering.proofs.Fronts.{record_same, front_same, front_length, front_next, front_more, names_more, all_front, all_here}

-- The first k records have their numbers.
pub record Renumbering (types : Table) (rs : List Record) (new₀ : List ℕ) (k : ℕ) (rs' : List Record) (new : List ℕ) (count : ℕ) : Type 0 where
  pub can : CanRenumber types rs new₀
  pub low : k ≤ length rs
  pub so_far : Renumbers types rs k rs' new count

module _ {types : Table} {rs : List Record} {new₀ : List ℕ} where
  pub starts : CanRenumber types rs new₀ → Renumbering types rs new₀ 0 rs new₀ 0
  unfolding joined need_all renumbered_front
  starts c = record { can = c; low = omega arith; so_far = record { numbering = c.numbering; records = refl } }

  module _ {k count : ℕ} {rs' : List Record} {new : List ℕ} (w : Renumbering types rs new₀ k rs' new count) where
    pub place : {n : ℕ} → k < n → n ≡ length rs → k < length rs'
    place l long = omega (arith, ap length w.so_far.records, front_length (new_number (front_uses types k rs)) k rs)

    -- The next record, which is as it was.
    module _ (r : Record) (e : r ≡ get_or rs' k no_record) {n : ℕ} (l : k < n) (long : n ≡ length rs) where
      within : k < length rs
      within = omega arith

      as_it_was : r ≡ get_or rs k no_record
      as_it_was = e ∙ (ap (λ xs. get_or xs k no_record) w.so_far.records ∙ front_next (new_number (front_uses types k rs)) k rs)

      its_types : All (NamesType types) (types_of_record r)
      its_types = subst (λ q. All (NamesType types) (types_of_record q)) (sym as_it_was) (all_here (NamesType types) k (length rs) rs within within w.can.entries)

      pub next_needs : CanNeedRecord types r new count
      next_needs = record { entries = its_types; numbered = record { good = w.can.good; few = w.can.few; seen = front_uses types k rs; numbering = w.so_far.numbering } }

      module _ {new₁ : List ℕ} {count₁ : ℕ} (m : RecordNeeds types r new count new₁ count₁) where
        uses_more : need_all types (types_of_record r) (front_uses types k rs) ≡ front_uses types (suc k) rs
        uses_more =
            ap (λ q. need_all types (types_of_record q) (front_uses types k rs)) as_it_was
            ∙ (sym (need_append types (front_names k rs) (types_of_record (get_or rs k no_record)) []) ∙ ap (λ xs. need_all types xs []) (sym (names_more k rs within)))

        after : Numbering types new₁ count₁ (front_uses types (suc k) rs)
        after = subst (Numbering types new₁ count₁) uses_more (m.is (front_uses types k rs) w.so_far.numbering)

        pub next_room : CanRenumberRecord r new₁
        next_room = record { room = all_with (λ x. x < length new₁) (types_of_record r) (λ x i. omega (arith, i.1, after.room)) its_types }

        -- The records before keep their numbers.
        stays : All (λ x. new_number (front_uses types k rs) x ≡ new_number (front_uses types (suc k) rs) x) (front_names k rs)
        stays =
            let names = all_front (NamesType types) k (length rs) rs w.low w.can.entries in
            all_with (λ x. new_number (front_uses types k rs) x ≡ new_number (front_uses types (suc k) rs) x) (front_names k rs)
            (λ x i. sym (ap (λ seen. new_number seen x) (sym uses_more) ∙ number_kept types w.can.good (types_of_record r) (front_uses types k rs) its_types w.so_far.numbering.seen_is x i.0 i.1))
            (all_numbered types w.can.good (front_names k rs) [] names (seen_nothing types w.can.good))

        one_more : (s : Record) → RenumbersRecord r new₁ s → set rs' k s ≡ renumbered_front (new_number (front_uses types (suc k) rs)) (suc k) rs
        one_more s p =
            let numbers = new_number (front_uses types (suc k) rs) in
            let here : s ≡ renumbered_record numbers (get_or rs k no_record) =
            p.is ∙ (record_same (λ x. get_or new₁ x 0) numbers r (all_with (λ x. get_or new₁ x 0 ≡ numbers x) (types_of_record r) (λ x i. after.each x i.1) its_types) ∙ ap (renumbered_record numbers) as_it_was) in
            ap₂ (λ xs x. set xs k x) (w.so_far.records ∙ front_same (new_number (front_uses types k rs)) numbers k rs stays) here ∙ front_more numbers k rs within

        pub next_done : (s : Record) {rs'' : List Record} → RenumbersRecord r new₁ s → rs'' ≡ set rs' k s → Renumbering types rs new₀ (k + 1) rs'' new₁ count₁
        next_done s p q = rw (add-one k) (record { can = w.can; low = omega (arith, within); so_far = record { numbering = after; records = q ∙ one_more s p } })

-- A turn, by the bytes of the records.
pub goes_on : {types : Table} {rs : List Record} {new₀ : List ℕ} {k count : ℕ} (s : List ℕ) {new : List ℕ} → Renumbering types rs new₀ k (records_in s) new count → {n : ℕ} → k < n → n ≡ length rs
    → (r : Record) → r ≡ get_or (records_in s) k no_record → {new₁ : List ℕ} {count₁ : ℕ} → RecordNeeds types r new count new₁ count₁
    → (q : Record) → RenumbersRecord r new₁ q → (s' : List ℕ) → RecordPut s k q s' → Renumbering types rs new₀ (k + 1) (records_in s') new₁ count₁
goes_on s w l long r e m q p s' put = next_done w r e l long m q p put.things

pub ruleset turning = (starts, place, next_needs, next_room, goes_on)
