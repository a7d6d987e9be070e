-- The first records of a list: the types that they name, and the records with other numbers for these. Assumes nothing.
use Prim.Native.Nat.{ℕ, zero, suc, ◌≤◌, ◌<◌}
use native.Mathlib.Omega.{arith}
use mathlib.Core.List.{List, [], ◌∷◌, ◌++◌, append-nil, append_assoc}
use mathlib.Core.Path.{◌≡◌, refl, ap, ap₂, sym, ◌∙◌, subst}
use lib.ListN.{length, get_or, set}
use Rattle.rules.specs.Lists.{All, joined}
use Rattle.rules.specs.Kinds.{kind_of}
use Rattle.rules.specs.FieldUses.{Use, unused, an_index, a_type, a_number, uses}
use Rattle.rules.specs.Format.{Record, no_record}
use Rattle.order.specs.Order.{types_in, types_of_record, renumbered_in, renumbered_record}
use Rattle.rules.proofs.General.{all_append}
use Rattle.order.proofs.Lists.{all_split}
use Rattle.numbering.specs.Renumbering.{renumbered_front, front_names}

-- Two numberings that agree on what a record names.
module _ (new new' : ℕ → ℕ) where
  abbrev Agree : List ℕ → Type 0
  Agree xs = All (λ x. new x ≡ new' x) xs

  in_same : (u : Use) (x : ℕ) → Agree (types_in u x) → renumbered_in new u x ≡ renumbered_in new' u x
  in_same unused x h = refl
  in_same an_index x h = refl
  in_same a_type x (h, _) = h
  in_same a_number x h = refl

  pub record_same : (r : Record) → Agree (types_of_record r) → renumbered_record new r ≡ renumbered_record new' r
  record_same r (h, k) =
      let f = r.fields in
      let in_a = (uses (kind_of r.kind)).a in
      let in_b = (uses (kind_of r.kind)).b in
      let (p, q) = all_split (λ x. new x ≡ new' x) (types_in in_a f.a) (types_in in_b f.b) k in
      λ i. record { kind = r.kind; fields = record { type = h i; a = in_same in_a f.a p i; b = in_same in_b f.b q i; value = f.value }; first = r.first; next = r.next }

  pub front_same : (k : ℕ) (rs : List Record) → Agree (front_names k rs) → renumbered_front new k rs ≡ renumbered_front new' k rs
  unfolding joined renumbered_front
  front_same zero rs h = refl
  front_same (suc k) [] h = refl
  front_same (suc k) (r ∷ rs) h =
      let (i, j) = all_split (λ x. new x ≡ new' x) (types_of_record r) (front_names k rs) h in
      ap₂ ◌∷◌ (record_same r i) (front_same k rs j)

-- What stands behind the front, and one record more.
module _ (new : ℕ → ℕ) where
  pub front_length : (k : ℕ) (rs : List Record) → length (renumbered_front new k rs) ≡ length rs
  unfolding renumbered_front
  front_length zero rs = refl
  front_length (suc k) [] = refl
  front_length (suc k) (r ∷ rs) = ap suc (front_length k rs)

  pub front_next : (k : ℕ) (rs : List Record) → get_or (renumbered_front new k rs) k no_record ≡ get_or rs k no_record
  unfolding renumbered_front
  front_next zero rs = refl
  front_next (suc k) [] = refl
  front_next (suc k) (r ∷ rs) = front_next k rs

  pub front_more : (k : ℕ) (rs : List Record) → k < length rs → set (renumbered_front new k rs) k (renumbered_record new (get_or rs k no_record)) ≡ renumbered_front new (suc k) rs
  unfolding renumbered_front
  front_more k [] h = absurd (omega arith)
  front_more zero (r ∷ rs) h = refl
  front_more (suc k) (r ∷ rs) h = ap (◌∷◌ (renumbered_record new r)) (front_more k rs (omega arith))

-- The types that are named.
pub names_more : (k : ℕ) (rs : List Record) → k < length rs → front_names (suc k) rs ≡ front_names k rs ++ types_of_record (get_or rs k no_record)
unfolding joined
names_more k [] h = absurd (omega arith)
names_more zero (r ∷ rs) h = append-nil (types_of_record r)
names_more (suc k) (r ∷ rs) h =
    ap (λ xs. types_of_record r ++ xs) (names_more k rs (omega arith)) ∙ sym (append_assoc (types_of_record r) (front_names k rs) (types_of_record (get_or rs k no_record)))

module _ (P : ℕ → Type 0) where
  pub all_front : (k n : ℕ) (rs : List Record) → k ≤ n → All P (front_names n rs) → All P (front_names k rs)
  unfolding joined
  all_front zero n rs l h = tt
  all_front (suc k) zero rs l h = absurd (omega arith)
  all_front (suc k) (suc n) [] l h = tt
  all_front (suc k) (suc n) (r ∷ rs) l h =
      let (i, j) = all_split P (types_of_record r) (front_names n rs) h in
      all_append P (types_of_record r) (front_names k rs) i (all_front k n rs (omega arith) j)

  pub all_here : (k n : ℕ) (rs : List Record) → k < n → k < length rs → All P (front_names n rs) → All P (types_of_record (get_or rs k no_record))
  all_here k n rs l b h = (all_split P (front_names k rs) (types_of_record (get_or rs k no_record)) (subst (All P) (names_more k rs b) (all_front (suc k) n rs (omega arith) h))).1
