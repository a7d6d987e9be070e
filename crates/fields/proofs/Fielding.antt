-- Rule 7 by the tests of a record's fields, each of which is made where those before it pass.
use Prim.Native.Nat.{ℕ, ◌≤◌}
use mathlib.Core.Bool.{Bool, true, false, not, ◌&&◌, and-true}
use mathlib.Core.Path.{◌≡◌, refl, sym, ap, ◌∙◌}
use lib.ListN.{length}
use lib.Dec.{leb}
use borrow.Author.Tests.{le-leb}
use Rattle.rules.specs.Types.{Table}
use Rattle.rules.specs.Kinds.{Kind, kind_of}
use Rattle.rules.specs.Editions.{Edition}
use Rattle.rules.specs.Conditions.{between, met}
use Rattle.rules.specs.FieldUses.{Use, TypeFields, type_field, field, uses}
use Rattle.rules.specs.Format.{Record}
use Rattle.kinds.specs.Meant.{type_fields_meant}
use Rattle.fields.specs.Fields.{FieldTested, FieldsTested}

-- r is whether the type field x is good.
pub record TypeTested (fields : TypeFields) (types x : ℕ) (r : Bool) : Type 0 where
  pub is : (table : Table) → length table ≡ types → r ≡ met (type_field fields table x)

-- It is looked at where types are given, and not where they are omitted.
module _ (given : Bool) (types x : ℕ) (r : Bool) where
  pub type_tested : not given ≡ false → (b : Bool) → b ≡ met (between 1 x types) → r ≡ b → TypeTested (type_fields_meant given) types x r
  unfolding type_fields_meant
  type_tested g b h e = record { is = λ table l. go given g table l }
    where
      go : (given : Bool) → not given ≡ false → (table : Table) → length table ≡ types → r ≡ met (type_field (type_fields_meant given) table x)
      go true g table l = rw l (e ∙ h)
      go false g table l = cc

  pub type_untested : not given ≡ true → r ≡ not given → TypeTested (type_fields_meant given) types x r
  unfolding type_fields_meant
  type_untested g e = record { is = λ table l. go given g table }
    where
      go : (given : Bool) → not given ≡ true → (table : Table) → r ≡ met (type_field (type_fields_meant given) table x)
      go true h table = cc
      go false h table = e ∙ g

-- r is whether the tests before pass, of which p is so, and the field x is good for the use u.
pub record AndTested (u : Use) (types x : ℕ) (p r : Bool) : Type 0 where
  pub is : (table : Table) → length table ≡ types → r ≡ p && met (field table u x)

module _ (u : Use) (types x : ℕ) (p r : Bool) where
  pub and_tested : p ≡ true → (v : Use) (b : Bool) → FieldTested v types x b → v ≡ u → r ≡ b → AndTested u types x p r
  and_tested t v b h e q = record { is = λ table l. rw t (q ∙ h.is table l ∙ ap (λ u. met (field table u x)) e) }

  pub and_untested : p ≡ false → r ≡ p → AndTested u types x p r
  and_untested f q = record { is = λ table l. q ∙ f ∙ rw f }

four_so : (p q r s : Bool) → ((p && q) && r) && s ≡ p && (q && (r && (s && true)))
four_so true true true s = sym (and-true s)
four_so true true false s = refl
four_so true false r s = refl
four_so false q r s = refl

-- The fields of a record, whose kind is one of the edition's, by their uses.
pub tested_fields : (fields : TypeFields) (edition : Edition) (types : ℕ) (x : Record) (k : Kind) (t a b v : Bool) → k ≡ kind_of x.kind → 1 ≤ x.kind → x.kind ≤ edition.last_kind
    → TypeTested fields types x.fields.type t → AndTested (uses k).a types x.fields.a t a → AndTested (uses k).b types x.fields.b a b → AndTested (uses k).value types x.fields.value b v
    → FieldsTested fields edition types x v
tested_fields fields edition types x k t a b v e low high ht ha hb hv = record {
  is = λ table l.
      let p = met (type_field fields table x.fields.type) in
      let q = met (field table (uses k).a x.fields.a) in
      let r = met (field table (uses k).b x.fields.b) in
      let s = met (field table (uses k).value x.fields.value) in
      let so : v ≡ ((p && q) && r) && s = hv.is table l ∙ ap (λ y. y && s) (hb.is table l ∙ ap (λ y. y && r) (ha.is table l ∙ ap (λ y. y && q) (ht.is table l))) in
      let kl : leb 1 x.kind ≡ true = le-leb 1 x.kind low in
      let kh : leb x.kind edition.last_kind ≡ true = le-leb x.kind edition.last_kind high in
      rw (kl, kh, ← e) (so ∙ four_so p q r s);
}

pub ruleset fielding = (type_tested, type_untested, and_tested, and_untested)
