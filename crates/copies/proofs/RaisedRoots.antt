-- The root of a tree whose free indices are raised, and its children. `raising_root` for search.
use Prim.Native.Nat.{ℕ, ◌+◌, ◌*◌, ◌≤◌, ◌<◌}
use native.Mathlib.Omega.{arith}
use mathlib.Core.List.{List}
use mathlib.Core.Bool.{Bool, true, false}
use mathlib.Core.Path.{◌≡◌, refl, sym, ap, ◌∙◌}
use lib.Dec.{ltb}
use lib.ListN.{length, get_or, set}
use mir.Syntax.{w16}
use mir.Val.{Fits}
use Rattle.rules.specs.Lists.{pick}
use Rattle.rules.specs.Kinds.{Kind, kind_number, kind_of}
use Rattle.rules.specs.FieldUses.{uses}
use Rattle.rules.specs.Terms.{Term, root_kind, fields_of, size}
use Rattle.rules.specs.FreeBounds.{free_bound}
use Rattle.rules.specs.Values.{plain}
use Rattle.rules.specs.Indices.{with_index, changed, raising, raised_index}
use Rattle.rules.specs.Format.{Record, no_record}
use Rattle.rules.proofs.General.{picked}
use Rattle.rules.proofs.KindTable.{kind_back}
use Rattle.rules.proofs.Laid.{size_some}
use Rattle.rules.proofs.Shifts.{raising_shifts, size_shifted, plain_shifted}
use Rattle.rules.proofs.ChangedBounds.{bound_raised}
use Rattle.kinds.specs.Named.{IsKind}
use Rattle.terms.specs.Preorder.{bound_and_plain, head, At}
use Rattle.copies.specs.Roots.{moved_field}
use Rattle.copies.specs.Raising.{FieldFits, CanRaiseRoot, RaisesRoot}
use Rattle.terms.proofs.Trees.{at_first, at_head, measure_read}
use Rattle.terms.proofs.Joined.{own_index_of, own_least}
use Rattle.copies.proofs.Parts.{root_known}
use Rattle.copies.proofs.Roots.{Kept, root_kept}

-- Raising keeps the size, and whether a tree is plain.
pub size_raised : (n d : ℕ) (t : Term) → size (changed (raising n) d t) ≡ size t
size_raised n d t = ap size (raising_shifts n d t) ∙ size_shifted 0 n d t

plain_raised : (n d : ℕ) (t : Term) → plain (changed (raising n) d t) ≡ plain t
plain_raised n d t = ap plain (raising_shifts n d t) ∙ plain_shifted 0 n d t

-- The root stays, its index raised.
pub raise_kept : (n d : ℕ) (t : Term) → Kept (raising n) d t
raise_kept n d t = root_kept (raising n) d t (λ f _. refl)

-- The copy's root, from the root.
abbrev raised_root : ℕ → ℕ → Record → Record
raised_root n d r = record { kind = r.kind; fields = with_index r.fields (moved_field (raised_index n d) (kind_of r.kind) r.fields.a); first = r.first; next = r.next + 2 * n }

root_raised : (n d : ℕ) (t : Term) → d < free_bound t → head (changed (raising n) d t) ≡ raised_root n d (head t)
root_raised n d t h =
    let k : kind_number (root_kind (changed (raising n) d t)) ≡ kind_number (root_kind t) = ap kind_number (raise_kept n d t).kind in
    let f : fields_of (changed (raising n) d t) ≡ with_index (fields_of t) (moved_field (raised_index n d) (kind_of (kind_number (root_kind t))) (fields_of t).a) =
    (raise_kept n d t).fields ∙ ap (λ k. with_index (fields_of t) (moved_field (raised_index n d) k (fields_of t).a)) (sym (kind_back (root_kind t))) in
    let s = size_raised n d t in
    let b : bound_and_plain (changed (raising n) d t) ≡ bound_and_plain t + 2 * n = rw (plain_raised n d t, bound_raised n d t h) (omega arith) in
    λ i. record { kind = k i; fields = f i; first = s i; next = b i }

bit_low : (p : Bool) → pick p 1 0 ≤ 1
bit_low true = omega arith
bit_low false = omega arith

index_low : (n d i : ℕ) → raised_index n d i ≤ i + n
index_low n d i = picked (λ x. x ≤ i + n) (ltb i d) (λ _. omega arith) (λ _. omega arith)

-- The index of a root at src can be raised.
pub index_fits : (rs : List Record) (src : ℕ) (r : Record) → r ≡ get_or rs src no_record → (t : Term) → At rs src t → (n d : ℕ) → free_bound t + n < 65536 → (k : Kind) → k ≡ kind_of r.kind → FieldFits n d k r.fields.a
index_fits rs src r e t h n d l j o =
    let m : r ≡ head t = e ∙ at_head rs src t h in
    let k : j ≡ root_kind t = o ∙ ap (λ x. kind_of x.kind) m ∙ kind_back (root_kind t) in
    let a : r.fields.a ≡ (fields_of t).a = ap (λ x. x.fields.a) m in
    record {
      index = λ u. omega (arith, own_index_of (fields_of t) (root_kind t) (ap (λ x. (uses x).a) (sym k) ∙ u), own_least t, index_low n d r.fields.a);
    }

-- `raise_root`
module _ (rs : List Record) (src dst n d : ℕ) where
  pub raise_first : CanRaiseRoot rs src dst n d → src < length rs
  raise_first h = at_first rs src h.tree h.raises.there

  pub raise_to : CanRaiseRoot rs src dst n d → dst < length rs
  raise_to h = omega (arith, h.raises.room, size_some h.tree)

  module _ (r : Record) (e : r ≡ get_or rs src no_record) where
    pub raise_known : CanRaiseRoot rs src dst n d → IsKind r.kind
    raise_known h = root_known rs src r e h.tree h.raises.there

    pub raise_field : CanRaiseRoot rs src dst n d → (k : Kind) (a : ℕ) → k ≡ kind_of r.kind → a ≡ r.fields.a → FieldFits n d k a
    raise_field h k a p q = rw q (index_fits rs src r e h.tree h.raises.there n d (omega (arith, h.raises.small)) k p)

    pub raise_fits : CanRaiseRoot rs src dst n d → (v : ℕ) → v ≡ r.next + 2 * n → Fits w16 v
    raise_fits h v q = omega (arith, ap (λ x. x.next) e, measure_read rs src h.tree h.raises.there, bit_low (plain h.tree), h.raises.small)

    pub root_raises : (rs' : List Record) (q : Record) (k : Kind) (a : ℕ) → k ≡ kind_of r.kind → a ≡ moved_field (raised_index n d) k r.fields.a
        → q ≡ record { kind = r.kind; fields = with_index r.fields a; first = r.first; next = r.next + 2 * n } → rs' ≡ set rs dst q → RaisesRoot rs rs' src dst n d
    root_raises rs' q k a o f g p = record {
      does = λ t h l.
          let m : r ≡ head t = e ∙ at_head rs src t h.there in
          p ∙ ap (set rs dst) (g ∙ ap (λ x. record { kind = r.kind; fields = with_index r.fields x; first = r.first; next = r.next + 2 * n }) (f ∙ ap (λ k. moved_field (raised_index n d) k r.fields.a) o) ∙ ap (raised_root n d) m ∙ sym (root_raised n d t l));
    }

pub ruleset raising_root = (raise_first, raise_to, raise_field, raise_fits, root_raises)
