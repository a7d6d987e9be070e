-- A leaf whose index is raised by the amount, or by 0 where it is not free, and its bound with it.
use Prim.Native.Nat.{ℕ, ◌+◌, ◌*◌, ◌/◌, ◌≤◌, ◌<◌}
use native.Mathlib.Omega.{arith}
use native.Mathlib.Decide.{dec_lt}
use mathlib.Core.List.{List, [], ◌∷◌}
use mathlib.Core.Path.{◌≡◌, refl, sym, ap, ◌∙◌}
use lib.Dec.{ltb}
use lib.ListN.{get_or, set}
use borrow.Author.Tests.{lt-ltb, le-ltb}
use mir.Syntax.{w16}
use mir.Val.{Fits, bool_byte}
use Rattle.rules.specs.Kinds.{number, variable}
use Rattle.rules.specs.Terms.{Term, leaf, unary, binary, ternary, fields_of, size}
use Rattle.rules.specs.FreeBounds.{free_bound}
use Rattle.rules.specs.Values.{plain}
use Rattle.rules.specs.Indices.{with_index, changed, raising, raised_index}
use Rattle.rules.specs.Format.{Record, no_record}
use Rattle.rules.proofs.Laid.{size_some}
use Rattle.rules.proofs.FreeBounds.{changed_low, raising_low}
use Rattle.terms.specs.Preorder.{bound_and_plain, head, preorder, puts, At}
use Rattle.terms.specs.Children.{kids, sizes, preorders}
use Rattle.terms.proofs.Children.{kids_sizes, count_sizes}
use Rattle.terms.proofs.Trees.{preorder_kids, at_head}
use Rattle.terms.proofs.Readings.{bound_reads}
use Rattle.copies.specs.Raising.{CanRaise, Raises}
use Rattle.copies.proofs.RaisedIndices.{product_low}

-- By how much the index of a leaf with this bound is raised.
abbrev pub raise : ℕ → ℕ → ℕ → ℕ
raise n d bound = n * bool_byte (ltb d bound)

-- A leaf with a free index is a variable.
leaf_index : (t : Term) → size t ≡ 1 → 0 < free_bound t → free_bound t ≡ (fields_of t).a + 1
unfolding free_bound size
leaf_index (leaf number f) s l = absurd (omega arith)
leaf_index (leaf variable f) s l = omega arith
leaf_index (unary k f t) s l = absurd (omega (arith, size_some t))
leaf_index (binary k f t u) s l = absurd (omega (arith, size_some t))
leaf_index (ternary k f t u v) s l = absurd (omega (arith, size_some t))

-- The record of a leaf whose index is raised by m.
abbrev pub leaf_by : ℕ → Record → Record
leaf_by m r = record { kind = r.kind; fields = with_index r.fields (r.fields.a + m); first = r.first; next = r.next + 2 * m }

by_none : (r : Record) → r ≡ leaf_by 0 r
by_none r =
    let a : r.fields.a ≡ r.fields.a + 0 = omega arith in
    let b : r.next ≡ r.next + 2 * 0 = omega arith in
    λ i. record { kind = r.kind; fields = with_index r.fields (a i); first = r.first; next = b i }

module _ (n d : ℕ) where
  leaf_free : (t : Term) → size t ≡ 1 → d < free_bound t → preorder (changed (raising n) d t) ≡ leaf_by n (head t) ∷ []
  unfolding free_bound size changed preorder plain
  leaf_free (leaf number f) s l = absurd (omega arith)
  leaf_free (leaf variable f) s l =
      let i : raised_index n d f.a ≡ f.a + n = rw (le-ltb f.a d (omega arith)) in
      let b : bound_and_plain (leaf variable (with_index f (f.a + n))) ≡ bound_and_plain (leaf variable f) + 2 * n = omega arith in
      ap (λ a. head (leaf variable (with_index f a)) ∷ []) i ∙ ap (λ m. (record { kind = 2; fields = with_index f (f.a + n); first = 1; next = m }) ∷ []) b
  leaf_free (unary k f t) s l = absurd (omega (arith, size_some t))
  leaf_free (binary k f t u) s l = absurd (omega (arith, size_some t))
  leaf_free (ternary k f t u v) s l = absurd (omega (arith, size_some t))

  leaf_alone : (t : Term) → size t ≡ 1 → preorder t ≡ head t ∷ []
  unfolding preorders
  leaf_alone t s = preorder_kids t ∙ ap (λ ts. head t ∷ preorders ts) (none (kids t) (omega (arith, kids_sizes t)))
    where
      none : (ts : List Term) → sizes ts ≡ 0 → ts ≡ []
      none [] e = refl
      none (t ∷ ts) e = absurd (omega (arith, count_sizes (t ∷ ts)))

  leaf_raised : (t : Term) → size t ≡ 1 → preorder (changed (raising n) d t) ≡ leaf_by (raise n d (free_bound t)) (head t) ∷ []
  leaf_raised t s = elim (dec_lt d (free_bound t)) [
    | yes l ↦
        let m : n ≡ raise n d (free_bound t) = rw (lt-ltb d (free_bound t) l) (omega arith) in
        leaf_free t s l ∙ ap (λ m. leaf_by m (head t) ∷ []) m
    | no l ↦
        let m : 0 ≡ raise n d (free_bound t) = rw (le-ltb d (free_bound t) (omega arith)) (omega arith) in
        ap preorder (changed_low (raising n) (raising_low n) d t (omega arith)) ∙ leaf_alone t s ∙ ap (λ x. x ∷ []) (by_none (head t)) ∙ ap (λ m. leaf_by m (head t) ∷ []) m
  ]

-- A leaf is written.
module _ (rs : List Record) (src dst n d : ℕ) (r : Record) (e : r ≡ get_or rs src no_record) where
  pub leaf_does : r.first ≡ 1 → (rs' : List Record) → rs' ≡ set rs dst (leaf_by (raise n d (r.next / 2)) r) → Raises rs rs' src dst n d
  unfolding puts
  leaf_does s rs' w = record { does = λ t h. told t h.there (e ∙ at_head rs src t h.there) }
    where
      told : (t : Term) → At rs src t → r ≡ head t → rs' ≡ puts rs dst (preorder (changed (raising n) d t))
      told t h m =
          let b : r.next / 2 ≡ free_bound t = (bound_reads rs src r e).is t h in
          let x : leaf_by (raise n d (r.next / 2)) r ≡ leaf_by (raise n d (free_bound t)) (head t) = ap (λ b. leaf_by (raise n d b) r) b ∙ ap (leaf_by (raise n d (free_bound t))) m in
          w ∙ ap (set rs dst) x ∙ ap (puts rs dst) (sym (leaf_raised n d t (sym (ap (λ y. y.first) m) ∙ s)))

  -- No field gets too large.
  module _ (h : CanRaise rs src dst n d) where
    leaf_bound : r.next / 2 ≡ free_bound h.tree
    leaf_bound = (bound_reads rs src r e).is h.tree h.raises.there

    pub leaf_index_fits : r.first ≡ 1 → r.fields.a < 65536 → Fits w16 (r.fields.a + raise n d (r.next / 2))
    leaf_index_fits s l = rw leaf_bound (elim (dec_lt d (free_bound h.tree)) [
      | yes m ↦
          let x = product_low n (ltb d (free_bound h.tree)) in
          let t = e ∙ at_head rs src h.tree h.raises.there in
          omega (arith, leaf_index h.tree (sym (ap (λ y. y.first) t) ∙ s) (omega arith), ap (λ y. y.fields.a) t, h.raises.small)
      | no m ↦ rw (le-ltb d (free_bound h.tree) (omega arith)) (omega arith)
    ])

    pub leaf_next_fits : (m : ℕ) → m ≤ n → Fits w16 (r.next + 2 * m)
    leaf_next_fits m l = omega (arith, leaf_bound, h.raises.small)
