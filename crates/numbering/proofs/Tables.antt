-- `order_entry` and `order_table`: the laws of the loop that puts the entry of each type that has a number at its place, and the table that is there when
-- it is over: that of the types in order of use, whatever the order of writing. `placing_entry` and `ordering` for search. Assumes nothing.
use Prim.Native.Nat.{ℕ, zero, suc, ◌+◌, ◌-◌, ◌≤◌, ◌<◌}
use native.Mathlib.Omega.{arith}
use native.Mathlib.Numerals.{add-one}
use native.Mathlib.Decide.{dec_lt, ℕ_discrete}
use mathlib.Core.List.{List, [], ◌∷◌, map}
use mathlib.Core.Logic.{◌≢◌}
use mathlib.Core.Path.{◌≡◌, refl, ap, ap₂, sym, ◌∙◌, subst}
use lib.Dec.{eqb, eqb→eq}
use lib.ListN.{length, get_or, set, take, length-map, length-set}
use lib.Seq.{ext_get_or, get_or-take, length-take-le, get_or-set_same, get_or-set_other}
use Rattle.rules.specs.Lists.{All}
use Rattle.rules.specs.Types.{Table, no_entry, entry}
use Rattle.order.specs.FullTypes.{NamesType, GoodEntries, in_full}
use Rattle.order.specs.Numbers.{equality}
use Rattle.order.specs.Order.{new_number, renumbered_entry, table_by}
use Rattle.rules.proofs.General.{is_false}
use Rattle.records.specs.declared.Entry.{Entry}
use Rattle.records.specs.Places.{IsEntry}
use Rattle.records.specs.View.{entries_in, EntryPut}
use Rattle.order.proofs.Full.{form}
use Rattle.order.proofs.InFull.{same_number, renumbered_full, table_full_lem}
use Rattle.order.proofs.Numbers.{number_here, number_injective, kept_new}
use Rattle.order.proofs.Few.{Different}
use Rattle.order.proofs.Used.{different}
use Rattle.order.proofs.TableInFull.{length_table, at}
use Rattle.numbering.specs.Numbering.{Seen, Numbering}
use Rattle.numbering.specs.Tables.{entry_by, with_entry, with_entries, CanOrderEntry, OrdersEntry, CanOrderTable, OrdersTable}
use Rattle.numbering.proofs.Needing.{lower}

-- One entry: it is put, or nothing is.
module _ (types : Table) (new : List ℕ) (x : ℕ) (es : Table) where
  with_none : get_or new x 0 ≡ 0 → with_entry types new x es ≡ es
  unfolding with_entry
  with_none e = rw e

  with_some : get_or new x 0 ≢ 0 → with_entry types new x es ≡ set es (get_or new x 0 - 1) (entry_by new (entry types x))
  unfolding with_entry
  with_some n = rw (is_false (eqb (get_or new x 0) 0) (λ t. n (eqb→eq (get_or new x 0) 0 t)))

  length_one : length (with_entry types new x es) ≡ length es
  length_one = elim (ℕ_discrete (get_or new x 0) 0) [
    | yes e ↦ ap length (with_none e)
    | no n ↦ ap length (with_some n) ∙ length-set es (get_or new x 0 - 1) (entry_by new (entry types x))
  ]

  pub nothing_put : get_or new x 0 ≡ 0 → OrdersEntry types x new es es
  nothing_put e = record { is = sym (with_none e) }

pub entry_put : {types : Table} {new : List ℕ} {x : ℕ} (s s' : List ℕ) → get_or new x 0 ≢ 0 → (e : Entry) → IsEntry types x e
    → EntryPut s (get_or new x 0 - 1) (record { kind = e.kind; a = get_or new e.a 0; b = get_or new e.b 0 }) s' → OrdersEntry types x new (entries_in s) (entries_in s')
entry_put {types} {new} {x} s s' n e i p =
    record { is = p.things ∙ (ap (λ y. set (entries_in s) (get_or new x 0 - 1) (entry_by new y)) i.is ∙ sym (with_some types new x (entries_in s) n)) }

pub ruleset placing_entry = (nothing_put, entry_put)

-- The loop: the entries of types 1 to x are put.
pub record Ordering (types : Table) (new : List ℕ) (es : Table) (x : ℕ) (es' : Table) : Type 0 where
  pub can : CanOrderTable types new es
  pub low : x ≤ length types
  pub so_far : OrdersTable types x new es es'

length_all : (types : Table) (new : List ℕ) (n : ℕ) (es : Table) → length (with_entries types new n es) ≡ length es
unfolding with_entries
length_all types new zero es = refl
length_all types new (suc n) es = length_one types new (suc n) (with_entries types new n es) ∙ length_all types new n es

module _ {types : Table} {new : List ℕ} {es : Table} where
  pub ordering_starts : CanOrderTable types new es → Ordering types new es 0 es
  unfolding with_entries
  ordering_starts c = record { can = c; low = omega arith; so_far = record { is = refl } }

  module _ {x : ℕ} {es' : Table} (o : Ordering types new es x es') where
    pub next_entry : {n : ℕ} → x < n → n ≡ length types → CanOrderEntry types (x + 1) new es'
    next_entry l long = record {
      good = o.can.good;
      is = (omega arith, omega arith);
      room = o.can.room;
      fits = λ y i. omega (arith, o.can.fits y i, ap length o.so_far.is, length_all types new x es);
    }

    pub entry_done : {n : ℕ} → x < n → n ≡ length types → {es'' : Table} → OrdersEntry types (x + 1) new es' es'' → Ordering types new es (x + 1) es''
    unfolding with_entries
    entry_done l long {es''} p = record {
      can = o.can;
      low = omega arith;
      so_far = subst (λ n. OrdersTable types n new es es'') (sym (add-one x)) (record { is = p.is ∙ ap₂ (λ n ys. with_entry types new n ys) (add-one x) o.so_far.is });
    }

pub ruleset ordering = (ordering_starts, next_entry, entry_done)

-- The type that has number n.
record Whom (types : Table) (seen : List ℕ) (n : ℕ) : Type 0 where
  type : ℕ
  is : NamesType types type
  numbers : new_number seen type ≡ n

whom : (types : Table) (xs : List ℕ) → All (NamesType types) xs → Different xs → (n : ℕ) → 1 ≤ n → n ≤ length xs → Whom types xs n
whom types [] h d n i j = absurd (omega arith)
whom types (x ∷ xs) (h, hs) (new, d) n i j = elim (dec_lt (length xs) n) [
  | yes l ↦ record { type = x; is = h; numbers = omega (arith, number_here equality x x xs refl) }
  | no l ↦
      let w = whom types xs hs d n i (omega arith) in
      record { type = w.type; is = w.is; numbers = kept_new equality x xs new w.type (omega (arith, w.numbers)) ∙ w.numbers }
]

-- The table by its numbers: the entry of type x stands at x's new number, its parts by theirs.
module _ (types : Table) (good : GoodEntries types) (seen : List ℕ) (s : Seen types seen) where
  pub table_length : length (table_by types seen) ≡ length seen
  table_length = ap length (table_full_lem types good seen s.entries) ∙ (length_table (map (in_full types) seen) ∙ length-map seen (in_full types))

  table_at : (x : ℕ) → NamesType types x → 0 < new_number seen x → entry (table_by types seen) (new_number seen x) ≡ renumbered_entry seen (entry types x)
  table_at x h i =
      ap₂ entry (table_full_lem types good seen s.entries) (same_number types good x seen h s.entries)
      ∙ ((at (map (in_full types) seen) (in_full types x) s.listed (omega (arith, i, same_number types good x seen h s.entries))).is ∙ sym (renumbered_full types good x (in_full types x) seen (form types good x h) s.entries))

  numbers_whom : (n : ℕ) → 1 ≤ n → n ≤ length seen → Whom types seen n
  numbers_whom = whom types seen s.entries (different types good seen s.entries s.listed)

-- The loop is over: each place of the table is written.
module _ (types : Table) (good : GoodEntries types) (new : List ℕ) (count : ℕ) (seen : List ℕ) (numbers : Numbering types new count seen) (es : Table) (room : count ≤ length es) where
  number_of : (x : ℕ) → NamesType types x → get_or new x 0 ≡ new_number seen x
  number_of x h = numbers.each x h.1

  stands : (k : ℕ) → k ≤ length types → (x : ℕ) → 1 ≤ x → x ≤ k → 0 < get_or new x 0 → get_or new x 0 ≤ length es
      → get_or (with_entries types new k es) (get_or new x 0 - 1) no_entry ≡ entry_by new (entry types x)
  unfolding with_entries
  stands zero b x h i l r = absurd (omega arith)
  stands (suc k) b x h i l r =
      let before = with_entries types new k es in
      let n = get_or new x 0 in
      elim (ℕ_discrete x (suc k)) [
        | yes e ↦ subst (λ y. get_or (with_entry types new y before) (n - 1) no_entry ≡ entry_by new (entry types x)) e
            (ap (λ ys. get_or ys (n - 1) no_entry) (with_some types new x before (λ z. omega (arith, z))) ∙ get_or-set_same before (n - 1) (entry_by new (entry types x)) no_entry (omega (arith, length_all types new k es)))
        | no e ↦
            let here = stands k (omega arith) x h (omega (arith, e)) l r in
            elim (ℕ_discrete (get_or new (suc k) 0) 0) [
              | yes z ↦ ap (λ ys. get_or ys (n - 1) no_entry) (with_none types new (suc k) before z) ∙ here
              | no z ↦
                  let it : NamesType types x = (h, omega arith) in
                  let other : NamesType types (suc k) = (omega arith, b) in
                  let apart : n - 1 ≢ get_or new (suc k) 0 - 1 = λ p. e (number_injective equality x (suc k) seen (omega (arith, number_of x it)) (omega (arith, p, z, number_of x it, number_of (suc k) other))) in
                  ap (λ ys. get_or ys (n - 1) no_entry) (with_some types new (suc k) before z) ∙ (get_or-set_other before (get_or new (suc k) 0 - 1) (n - 1) (entry_by new (entry types (suc k))) no_entry apart ∙ here)
            ]
      ]

  by_numbers : (x : ℕ) → NamesType types x → entry_by new (entry types x) ≡ renumbered_entry seen (entry types x)
  by_numbers x h =
      let (la, lb) = lower types good x h in
      let y = entry types x in
      let p = numbers.each y.a (omega (arith, h.1)) in
      let q = numbers.each y.b (omega (arith, h.1)) in
      λ i. record { kind = y.kind; a = p i; b = q i }

  pub table_ordered : take count (with_entries types new (length types) es) ≡ table_by types seen
  table_ordered =
      let all = with_entries types new (length types) es in
      let long : length (take count all) ≡ count = length-take-le count all (omega (arith, length_all types new (length types) es)) in
      ext_get_or no_entry (take count all) (table_by types seen) (omega (arith, long, table_length types good seen numbers.seen_is, numbers.counted))
      (λ j l.
      let w = numbers_whom types good seen numbers.seen_is (suc j) (omega arith) (omega (arith, long, numbers.counted)) in
      let x = w.type in
      let n = number_of x w.is in
      let place : get_or new x 0 - 1 ≡ j = omega (arith, n, w.numbers) in
      get_or-take count all j no_entry (omega (arith, long))
      ∙ (ap (λ i. get_or all i no_entry) (sym place)
      ∙ (stands (length types) (omega arith) x w.is.0 w.is.1 (omega (arith, n, w.numbers)) (omega (arith, n, w.numbers, long))
      ∙ (by_numbers x w.is
      ∙ (sym (table_at types good seen numbers.seen_is x w.is (omega (arith, w.numbers))) ∙ ap (entry (table_by types seen)) w.numbers)))))
