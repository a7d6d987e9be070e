-- "The same but for the numbers of types", turned round, joined over a table between, and with the type fields left out of sight.
use Prim.Native.Nat.{ℕ}
use mathlib.Core.Path.{sym, ◌∙◌}
use Rattle.rules.specs.Kinds.{Kind}
use Rattle.rules.specs.Terms.{Fields, Term}
use Rattle.rules.specs.Types.{Table}
use Rattle.rules.specs.FieldUses.{Use, unused, an_index, a_type, a_number, uses, TypeFields, given, omitted}
use Rattle.order.specs.FullTypes.{SameType}
use Rattle.order.specs.Alike.{Alike, SameIn, SameInType, SameFields, SameTerm}
use Rattle.order.proofs.Alike.{alike_with, alike_turned, alike_joined}

module _ (types types' : Table) where
  type_turned : (x y : ℕ) → SameType types types' x y → SameType types' types y x
  type_turned x y h = record { here = h.there; there = h.here; same = sym h.same }

  in_turned : (u : Use) (x y : ℕ) → SameIn types types' u x y → SameIn types' types u y x
  in_turned unused x y h = sym h
  in_turned an_index x y h = sym h
  in_turned a_type x y h = type_turned x y h
  in_turned a_number x y h = sym h

  own_turned : (fields : TypeFields) (x y : ℕ) → SameInType fields types types' x y → SameInType fields types' types y x
  own_turned given x y h = type_turned x y h
  own_turned omitted x y h = tt

  fields_turned : (fields : TypeFields) (k : Kind) (f g : Fields) → SameFields fields types types' k f g → SameFields fields types' types k g f
  fields_turned fields k f g h = record {
    type = own_turned fields f.type g.type h.type;
    a = in_turned (uses k).a f.a g.a h.a;
    b = in_turned (uses k).b f.b g.b h.b;
    value = sym h.value;
  }

  without_types : (k : Kind) (f g : Fields) → SameFields given types types' k f g → SameFields omitted types types' k f g
  without_types k f g h = record { type = tt; a = h.a; b = h.b; value = h.value }

pub same_turned : (fields : TypeFields) (types types' : Table) {t t' : Term} → Alike (SameFields fields types types') t t' → Alike (SameFields fields types' types) t' t
same_turned fields types types' h = alike_turned (fields_turned types types' fields) h

pub same_omitted : (types types' : Table) {t t' : Term} → SameTerm types types' t t' → Alike (SameFields omitted types types') t t'
same_omitted types types' h = alike_with (without_types types types') h

module _ (A B C : Table) where
  type_joined : (x y z : ℕ) → SameType A B x y → SameType B C y z → SameType A C x z
  type_joined x y z h k = record { here = h.here; there = k.there; same = h.same ∙ k.same }

  in_joined : (u : Use) (x y z : ℕ) → SameIn A B u x y → SameIn B C u y z → SameIn A C u x z
  in_joined unused x y z h k = h ∙ k
  in_joined an_index x y z h k = h ∙ k
  in_joined a_type x y z h k = type_joined x y z h k
  in_joined a_number x y z h k = h ∙ k

  own_joined : (fields : TypeFields) (x y z : ℕ) → SameInType fields A B x y → SameInType fields B C y z → SameInType fields A C x z
  own_joined given x y z h k = type_joined x y z h k
  own_joined omitted x y z h k = tt

  fields_joined : (fields : TypeFields) (k : Kind) (f g h : Fields) → SameFields fields A B k f g → SameFields fields B C k g h → SameFields fields A C k f h
  fields_joined fields k f g h r q = record {
    type = own_joined fields f.type g.type h.type r.type q.type;
    a = in_joined (uses k).a f.a g.a h.a r.a q.a;
    b = in_joined (uses k).b f.b g.b h.b r.b q.b;
    value = r.value ∙ q.value;
  }

  pub same_joined : (fields : TypeFields) {t u v : Term} → Alike (SameFields fields A B) t u → Alike (SameFields fields B C) u v → Alike (SameFields fields A C) t v
  same_joined fields h k = alike_joined (fields_joined fields) h k
