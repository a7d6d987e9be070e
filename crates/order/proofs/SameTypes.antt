-- Types of a table and of one that begins with it, and a term beside its cleared one: the same in full.
use Prim.Native.Nat.{ℕ, zero, suc, ◌≤◌, ◌<◌}
use native.Mathlib.Omega.{arith}
use mathlib.Core.Path.{◌≡◌, refl, ap, ap₂, sym, ◌∙◌}
use lib.ListN.{length}
use Rattle.rules.specs.Kinds.{Kind, leaf₀, unary₁, binary₂, ternary₃}
use Rattle.rules.specs.Terms.{Fields, Term, leaf, unary, binary, ternary}
use Rattle.rules.specs.Types.{Table, Entry, entry}
use Rattle.rules.specs.Conditions.{Met, Holds}
use Rattle.rules.specs.FieldUses.{Use, unused, an_index, a_type, a_number, uses, field, formed_besides, omitted}
use Rattle.inference.specs.FullTypes.{entry_out, full, fn, code}
use Rattle.order.specs.FullTypes.{NamesType, GoodEntries, in_full, SameType}
use Rattle.order.specs.Alike.{Alike, leaves, unaries, binaries, ternaries, SameIn, SameFields}
use Rattle.order.proofs.Full.{Kinded, a_nat, a_fn, a_code, kind_of_lem}
use Rattle.inference.specs.Inference.{Begins, retyped, cleared, Formed}
use Rattle.inference.proofs.Growing.{longer, same_entry_lem}

module _ (types B : Table) (good : GoodEntries types) (begins : Begins types B) where
  entry_same : (left x : ℕ) (y : Entry) → Kinded x y → x ≤ length types → ((p : ℕ) → NamesType types p → p < x → full left types p ≡ full left B p)
      → entry_out (full left types) y ≡ entry_out (full left B) y
  entry_same left x y a_nat b below = refl
  entry_same left x y (a_fn p q hp lp hq lq) b below = ap₂ fn (below p (hp, omega arith) lp) (below q (hq, omega arith) lq)
  entry_same left x y (a_code c hc lc) b below = ap code (below c (hc, omega arith) lc)

  same_to : (left x : ℕ) → NamesType types x → full left types x ≡ full left B x
  unfolding full
  same_to zero x h = refl
  same_to (suc left) x h = entry_same left x (entry types x) (kind_of_lem types good x h) h.1 (λ p i l. same_to left p i) ∙ ap (entry_out (full left B)) (sym (same_entry_lem begins x h.1))

  -- An entry of the first table is the same type in the second, under the same number.
  pub begins_same : (x : ℕ) → NamesType types x → SameType types B x x
  unfolding in_full
  begins_same x h = record { here = h; there = (h.0, omega (arith, h.1, longer begins)); same = same_to x x h }

  field_same : (u : Use) (x : ℕ) → Met (field types u x) → SameIn types B u x x
  field_same unused x h = refl
  field_same an_index x h = refl
  field_same a_type x h = begins_same x h
  field_same a_number x h = refl

  cleared_fields : (k : Kind) (f : Fields) → Holds (formed_besides types k (retyped 0 f)) → SameFields omitted types B k (retyped 0 f) f
  cleared_fields k f (a, (b, _)) = record { type = tt; a = field_same (uses k).a f.a a; b = field_same (uses k).b f.b b; value = refl }

  -- A cleared term over the first table and the term over the second.
  pub cleared_same : (t : Term) → Formed types (cleared t) → Alike (SameFields omitted types B) (cleared t) t
  unfolding cleared Formed
  cleared_same (leaf k f) h = leaves k _ f (cleared_fields (leaf₀ k) f h)
  cleared_same (unary k f t) (h, i) = unaries k _ f (cleared_fields (unary₁ k) f h) (cleared_same t i)
  cleared_same (binary k f t u) (h, i, j) = binaries k _ f (cleared_fields (binary₂ k) f h) (cleared_same t i) (cleared_same u j)
  cleared_same (ternary k f t s e) (h, i, j, m) = ternaries k _ f (cleared_fields (ternary₃ k) f h) (cleared_same t i) (cleared_same s j) (cleared_same e m)

-- Clearing the types changes nothing where they are not looked at.
module _ (types types' : Table) where
  fields_cleared : (k : Kind) (f g : Fields) → SameFields omitted types types' k f g → SameFields omitted types types' k f (retyped 0 g)
  fields_cleared k f g h = record { type = tt; a = h.a; b = h.b; value = h.value }

  pub same_cleared : {t u : Term} → Alike (SameFields omitted types types') t u → Alike (SameFields omitted types types') t (cleared u)
  unfolding cleared
  same_cleared (leaves k f g r) = leaves k f _ (fields_cleared _ f g r)
  same_cleared (unaries k f g r h) = unaries k f _ (fields_cleared _ f g r) (same_cleared h)
  same_cleared (binaries k f g r h i) = binaries k f _ (fields_cleared _ f g r) (same_cleared h) (same_cleared i)
  same_cleared (ternaries k f g r h i j) = ternaries k f _ (fields_cleared _ f g r) (same_cleared h) (same_cleared i) (same_cleared j)
