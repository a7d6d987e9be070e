-- The laws of `need` and of `need_field`: what has a number needs nothing; what has none needs its parts, left first, and gets the next. `needing` for
-- search. Assumes nothing.
use Prim.Native.Nat.{ℕ, ◌+◌, ◌<◌}
use native.Mathlib.Omega.{arith}
use mathlib.Core.Bool.{Bool, true, false, not}
use mathlib.Core.List.{List}
use mathlib.Core.Logic.{◌≢◌}
use mathlib.Core.Path.{◌≡◌, refl, ap, sym, ◌∙◌, subst}
use lib.ListN.{length, get_or, set}
use denote.Enum.Bare.{sameb}
use mir.Syntax.{w16}
use mir.Val.{Fits}
use Rattle.std.proofs.lemmas.Bool.{false≢true}
use Rattle.rules.specs.Types.{Table}
use Rattle.order.specs.Order.{needed}
use Rattle.kinds.specs.Named.{use_meant}
use Rattle.kinds.specs.contracts.uses.Use.{the_type}
use Rattle.kinds.specs.declared.uses.Use.{Use}
use Rattle.kinds.specs.declared.uses.Use.TheVariants.{Unused, Index, Entry as AnEntry, Value}
use Rattle.records.specs.Places.{IsEntry}
use Rattle.records.specs.declared.Entry.{Entry}
use Rattle.order.proofs.InFull.{need_none}
use Rattle.numbering.specs.Numbering.{Numbering, SomeNumbered, CanNeed, Needs, type_named}
use Rattle.numbering.proofs.Needing.{needed_old, seen_few, numbering_more}

-- What is kept from need to need.
module _ {types : Table} {x : ℕ} {new : List ℕ} {count : ℕ} {new' : List ℕ} {count' : ℕ} (n : Needs types x new count new' count') (s : SomeNumbered types new count) where
  pub needs_on : SomeNumbered types new' count'
  needs_on = record { good = s.good; few = s.few; seen = needed types x s.seen; numbering = n.is s.seen s.numbering }

  pub next_fits : Fits w16 (count' + 1)
  next_fits = let m = needs_on in omega (arith, m.numbering.counted, seen_few types m.good m.seen m.numbering.seen_is, m.few)

module _ {types : Table} {x count : ℕ} {new : List ℕ} where
  pub none_needs : x ≡ 0 → Needs types x new count new count
  none_needs e = record { is = λ seen n. subst (λ y. Numbering types new count (needed types y seen)) (sym e) (subst (Numbering types new count) (sym (need_none 0 types seen)) n) }

  module _ (c : CanNeed types x new count) where
    pub old_needs : get_or new x 0 ≢ 0 → Needs types x new count new count
    old_needs h = record { is = λ seen n. subst (Numbering types new count) (sym (needed_old types c.numbered.good x seen (omega (arith, h, n.each x c.low)))) n }

    pub all_needs : (e : Entry) → IsEntry types x e → {new₁ : List ℕ} {count₁ : ℕ} {new₂ : List ℕ} {count₂ : ℕ} → x ≢ 0 → get_or new x 0 ≡ 0 → Needs types e.a new count new₁ count₁
        → Needs types e.b new₁ count₁ new₂ count₂ → Needs types x new count (set new₂ x (count₂ + 1)) (count₂ + 1)
    all_needs e i {new₁} {count₁} {new₂} {count₂} h z n k = record {
      is = λ seen s. numbering_more types c.numbered.good x seen new₂ count₂ (omega (arith, h), c.low) (sym (s.each x c.low) ∙ z) s.seen_is
          (subst (λ y. Numbering types new₂ count₂ (needed types y.b (needed types y.a seen))) i.is (k.is (needed types e.a seen) (n.is seen s)));
    }

pub ruleset needing = (needs_on, next_fits, none_needs, old_needs, all_needs)

-- The test whether a field names a type.
pub names_some : (u : Use) (b : Bool) → b ≡ not (sameb the_type u AnEntry) → b ≡ false → u ≡ AnEntry
names_some Unused b e f = absurd (false≢true (sym f ∙ e))
names_some Index b e f = absurd (false≢true (sym f ∙ e))
names_some AnEntry b e f = refl
names_some Value b e f = absurd (false≢true (sym f ∙ e))

pub names_other : (u : Use) (b : Bool) → b ≡ not (sameb the_type u AnEntry) → b ≡ true → u ≢ AnEntry
names_other u b e t p = false≢true (sym (e ∙ ap (λ v. not (sameb the_type v AnEntry)) p) ∙ t)

-- The type that a field names.
pub names_none : (u : Use) (x : ℕ) → u ≢ AnEntry → type_named (use_meant u) x ≡ 0
unfolding type_named
names_none Unused x n = refl
names_none Index x n = refl
names_none AnEntry x n = absurd (n refl)
names_none Value x n = refl

module _ {types : Table} (u : Use) (x : ℕ) {count : ℕ} {new : List ℕ} where
  pub field_none : u ≢ AnEntry → Needs types (type_named (use_meant u) x) new count new count
  field_none n = none_needs (names_none u x n)

  pub field_can : u ≡ AnEntry → CanNeed types (type_named (use_meant u) x) new count → CanNeed types x new count
  unfolding type_named
  field_can e = subst (λ v. CanNeed types (type_named (use_meant v) x) new count) e

  pub field_room : u ≡ AnEntry → CanNeed types (type_named (use_meant u) x) new count → x < length new
  field_room e c = omega (arith, (field_can e c).low, c.numbered.numbering.room)

  pub field_needs : {new' : List ℕ} {count' : ℕ} → u ≡ AnEntry → Needs types x new count new' count' → Needs types (type_named (use_meant u) x) new count new' count'
  unfolding type_named
  field_needs {new'} {count'} e = subst (λ v. Needs types (type_named (use_meant v) x) new count new' count') (sym e)

  pub field_old : u ≡ AnEntry → get_or new x 0 ≢ 0 → CanNeed types (type_named (use_meant u) x) new count → Needs types (type_named (use_meant u) x) new count new count
  field_old e h c = field_needs e (old_needs (field_can e c) h)

pub ruleset of_field = (names_some, names_other, field_none, field_can, field_room, field_old, field_needs)
