-- The laws of `need_record`, `number_named` and `with_numbers`: a record's type, then a and b where they name types. `recording` and `renumbering`
-- for search. Assumes nothing.
use Prim.Native.Nat.{ℕ, ◌<◌, ◌≤◌}
use native.Mathlib.Omega.{arith}
use mathlib.Core.List.{List, ◌++◌}
use mathlib.Core.Path.{◌≡◌, refl, ap, ap₂, sym, ◌∙◌, subst}
use lib.ListN.{length, get_or}
use Rattle.rules.specs.Lists.{All}
use Rattle.rules.specs.Kinds.{Kind, kind_of}
use Rattle.rules.specs.Format.{Record}
use Rattle.rules.specs.FieldUses.{Use, unused, an_index, a_type, a_number, uses}
use Rattle.rules.specs.Types.{Table}
use Rattle.order.specs.FullTypes.{NamesType}
use Rattle.order.specs.Order.{types_in, needed, need_all, renumbered_in}
use Rattle.order.proofs.Lists.{all_split}
use Rattle.order.proofs.InFull.{need_none}
use Rattle.kinds.specs.Named.{use_meant}
use Rattle.kinds.specs.declared.uses.Use.{Use as CodeUse}
use Rattle.kinds.specs.declared.uses.Use.TheVariants.{Entry}
use Rattle.numbering.specs.Numbering.{Numbering, SomeNumbered, CanNeed, Needs, type_named, CanNeedRecord, RecordNeeds}
use Rattle.numbering.specs.Renumbering.{CanRenumberRecord, RenumbersRecord}
use Rattle.numbering.proofs.Needing.{need_append}
use Rattle.numbering.proofs.Fields.{needs_on}

-- A field by its use.
named_low : (types : Table) (u : Use) (x : ℕ) → All (NamesType types) (types_in u x) → type_named u x ≤ length types
unfolding type_named
named_low types unused x h = omega arith
named_low types an_index x h = omega arith
named_low types a_type x ((_, h), _) = h
named_low types a_number x h = omega arith

named_needed : (types : Table) (u : Use) (x : ℕ) (seen : List ℕ) → needed types (type_named u x) seen ≡ need_all types (types_in u x) seen
unfolding type_named need_all
named_needed types unused x seen = need_none 0 types seen
named_needed types an_index x seen = need_none 0 types seen
named_needed types a_type x seen = refl
named_needed types a_number x seen = need_none 0 types seen

-- A record by its fields.
abbrev record_with : ℕ → ℕ → ℕ → ℕ → ℕ → ℕ → ℕ → Record
record_with kind type a b value first next = record { kind = kind; fields = record { type = type; a = a; b = b; value = value }; first = first; next = next }

module _ (types : Table) (kind type a b value first next : ℕ) (new : List ℕ) (count : ℕ) where
  -- What each field names can be needed, whatever was needed before.
  module _ (c : CanNeedRecord types (record_with kind type a b value first next) new count) {new₁ : List ℕ} {count₁ : ℕ} (s : SomeNumbered types new₁ count₁) where
    parts_entries : All (NamesType types) (types_in (uses (kind_of kind)).a a) × All (NamesType types) (types_in (uses (kind_of kind)).b b)
    parts_entries = all_split (NamesType types) (types_in (uses (kind_of kind)).a a) (types_in (uses (kind_of kind)).b b) c.entries.1

    pub can_type : CanNeed types (type_named a_type type) new₁ count₁
    unfolding type_named
    can_type = record { low = c.entries.0.1; numbered = s }

    pub can_a : (k : Kind) (u : Use) → k ≡ kind_of kind → u ≡ (uses k).a → CanNeed types (type_named u a) new₁ count₁
    can_a k u d e = record { low = subst (λ v. type_named v a ≤ length types) (sym (e ∙ ap (λ j. (uses j).a) d)) (named_low types (uses (kind_of kind)).a a parts_entries.0); numbered = s }

    pub can_b : (k : Kind) (u : Use) → k ≡ kind_of kind → u ≡ (uses k).b → CanNeed types (type_named u b) new₁ count₁
    can_b k u d e = record { low = subst (λ v. type_named v b ≤ length types) (sym (e ∙ ap (λ j. (uses j).b) d)) (named_low types (uses (kind_of kind)).b b parts_entries.1); numbered = s }

  pub record_needs : (j : Kind) (u v : Use) {new₁ : List ℕ} {count₁ : ℕ} {new₂ : List ℕ} {count₂ : ℕ} {new₃ : List ℕ} {count₃ : ℕ} → j ≡ kind_of kind → u ≡ (uses j).a → v ≡ (uses j).b → Needs types (type_named a_type type) new count new₁ count₁
      → Needs types (type_named u a) new₁ count₁ new₂ count₂ → Needs types (type_named v b) new₂ count₂ new₃ count₃ → RecordNeeds types (record_with kind type a b value first next) new count new₃ count₃
  unfolding need_all type_named
  record_needs j u v {new₁} {count₁} {new₂} {count₂} {new₃} {count₃} d eu ev n k l =
      let in_a = (uses (kind_of kind)).a in
      let in_b = (uses (kind_of kind)).b in
      record {
        is = λ seen s.
            let at = needed types type seen in
            let all : needed types (type_named v b) (needed types (type_named u a) at) ≡ need_all types (types_in in_a a ++ types_in in_b b) at =
            ap₂ (λ y z. needed types (type_named z b) (needed types (type_named y a) at)) (eu ∙ ap (λ i. (uses i).a) d) (ev ∙ ap (λ i. (uses i).b) d)
            ∙ (named_needed types in_b b (needed types (type_named in_a a) at)
            ∙ (ap (need_all types (types_in in_b b)) (named_needed types in_a a at) ∙ sym (need_append types (types_in in_a a) (types_in in_b b) at))) in
            subst (Numbering types new₃ count₃) all (l.is _ (k.is _ (n.is seen s)));
      }

pub ruleset recording = (needs_on, can_type, can_a, can_b, record_needs)

-- A field that names a type names one that has a place in the array.
pub named_place : (new : List ℕ) (x : ℕ) (u : CodeUse) → u ≡ Entry → type_named (use_meant u) x < length new → x < length new
unfolding type_named
named_place new x u e = subst (λ v. type_named (use_meant v) x < length new) e

named_room : (new : List ℕ) (u : Use) (x : ℕ) → 0 < length new → All (λ y. y < length new) (types_in u x) → type_named u x < length new
unfolding type_named
named_room new unused x p h = p
named_room new an_index x p h = p
named_room new a_type x p (h, _) = h
named_room new a_number x p h = p

module _ (kind type a b value first next : ℕ) (new : List ℕ) where
  abbrev CanRenumberIt : Type 0
  CanRenumberIt = CanRenumberRecord (record_with kind type a b value first next) new

  pub room_type : CanRenumberIt → type_named a_type type < length new
  unfolding type_named
  room_type c = c.room.0

  parts_room : CanRenumberIt → All (λ y. y < length new) (types_in (uses (kind_of kind)).a a) × All (λ y. y < length new) (types_in (uses (kind_of kind)).b b)
  parts_room c = all_split (λ y. y < length new) (types_in (uses (kind_of kind)).a a) (types_in (uses (kind_of kind)).b b) c.room.1

  pub room_a : (k : Kind) (u : Use) → k ≡ kind_of kind → u ≡ (uses k).a → CanRenumberIt → type_named u a < length new
  room_a k u d e c = subst (λ v. type_named v a < length new) (sym (e ∙ ap (λ j. (uses j).a) d)) (named_room new (uses (kind_of kind)).a a (omega (arith, c.room.0)) (parts_room c).0)

  pub room_b : (k : Kind) (u : Use) → k ≡ kind_of kind → u ≡ (uses k).b → CanRenumberIt → type_named u b < length new
  room_b k u d e c = subst (λ v. type_named v b < length new) (sym (e ∙ ap (λ j. (uses j).b) d)) (named_room new (uses (kind_of kind)).b b (omega (arith, c.room.0)) (parts_room c).1)

  pub record_renumbered : (x y z : ℕ) (k : Kind) (u v : Use) → x ≡ get_or new type 0 → k ≡ kind_of kind → u ≡ (uses k).a → y ≡ renumbered_in (λ n. get_or new n 0) u a
      → v ≡ (uses k).b → z ≡ renumbered_in (λ n. get_or new n 0) v b → RenumbersRecord (record_with kind type a b value first next) new (record_with kind x y z value first next)
  record_renumbered x y z k u v ex d eu ey ev ez =
      let by : Use → ℕ → ℕ = renumbered_in (λ n. get_or new n 0) in
      let y≡ : y ≡ by (uses (kind_of kind)).a a = ey ∙ ap (λ n. by n a) (eu ∙ ap (λ j. (uses j).a) d) in
      let z≡ : z ≡ by (uses (kind_of kind)).b b = ez ∙ ap (λ n. by n b) (ev ∙ ap (λ j. (uses j).b) d) in
      record { is = λ i. record_with kind (ex i) (y≡ i) (z≡ i) value first next }

pub ruleset renumbering = (room_type, room_a, room_b, record_renumbered)
