-- The tree of a record of a program, as its record and the chain of its children's trees.
use Prim.Native.Nat.{ℕ, zero, suc, ◌-◌, ◌≤◌, ◌<◌}
use native.Mathlib.Omega.{arith}
use mathlib.Core.Path.{◌≡◌, refl, sym, ap, ◌∙◌}
use mathlib.Core.List.{List, [], ◌∷◌}
use lib.ListN.{length}
use Rattle.rules.specs.Kinds.{Kind, leaf₀, unary₁, binary₂, ternary₃, kind_number, kind_of}
use Rattle.rules.specs.Terms.{Fields, Term, root_kind, fields_of}
use Rattle.rules.specs.Conditions.{Holds}
use Rattle.rules.specs.Format.{Record, record_no}
use Rattle.rules.specs.Links.{first_of, next_of, node, tree_of}
use Rattle.rules.specs.Check.{children}
use Rattle.kinds.proofs.Named.{number_back}
use Rattle.rules.proofs.Tree.{first_le, first_above, next_le, next_above}
use Rattle.terms.specs.Loads.{WellLinked}
use Rattle.terms.proofs.Children.{kids}

-- From record c on, the chain of following siblings names the records whose trees these are, all of them above n.
unfoldable pub Chain : List Record → ℕ → ℕ → ℕ → List Term → Type 0
Chain rs left n c [] = c ≡ 0
Chain rs left n c (t ∷ ts) = (n < c) × (c ≤ length rs) × (t ≡ tree_of left rs c) × Chain rs left n (next_of rs c) ts

-- A record's children by its links.
module _ (rs : List Record) (n : ℕ) where
  abbrev child₁ : ℕ
  child₁ = first_of rs n

  abbrev child₂ : ℕ
  child₂ = next_of rs child₁

  abbrev child₃ : ℕ
  child₃ = next_of rs child₂

  abbrev tree_node : ℕ → Kind → Fields → Term
  tree_node left k f = node k f (tree_of left rs child₁) (tree_of left rs child₂) (tree_of left rs child₃)

  root_node : (left : ℕ) (k : Kind) (f : Fields) → (root_kind (tree_node left k f) ≡ k) × (fields_of (tree_node left k f) ≡ f)
  root_node left (leaf₀ k) f = (refl, refl)
  root_node left (unary₁ k) f = (refl, refl)
  root_node left (binary₂ k) f = (refl, refl)
  root_node left (ternary₃ k) f = (refl, refl)

  kids_chain : (left : ℕ) (k : Kind) (f : Fields) → Holds (children k child₁ child₂ child₃ (next_of rs child₃)) → Chain rs left n child₁ (kids (tree_node left k f))
  unfolding Chain kids
  kids_chain left (leaf₀ k) f (h, _) = h
  kids_chain left (unary₁ k) f (h, (i, _)) = (first_above rs n h, first_le rs n, refl, i)
  kids_chain left (binary₂ k) f (h, (i, (j, _))) =
      let p = first_above rs n h in
      (p, first_le rs n, refl, (omega (arith, next_above rs child₁ i), next_le rs child₁, refl, j))
  kids_chain left (ternary₃ k) f (h, (i, (j, (o, _)))) =
      let p = first_above rs n h in
      let q = next_above rs child₁ i in
      (p, first_le rs n, refl, (omega arith, next_le rs child₁, refl, (omega (arith, next_above rs child₂ j), next_le rs child₂, refl, o)))

tree_node_lem : (rs : List Record) (left n : ℕ) → 1 ≤ left → 1 ≤ n → tree_of left rs n ≡ tree_node rs n (left - 1) (kind_of (record_no rs n).kind) (record_no rs n).fields
unfolding tree_of
tree_node_lem rs zero n p q = absurd (omega arith)
tree_node_lem rs (suc left) zero p q = absurd (omega arith)
tree_node_lem rs (suc left) (suc n) p q = let e : suc left - 1 ≡ left = omega arith in rw e

-- Its root has the record's kind and fields, and its children are those of the chain from its first link on.
module _ (rs : List Record) (left n : ℕ) (w : WellLinked rs) (p : 1 ≤ left) (q : 1 ≤ n) (r : n ≤ length rs) where
  root : (root_kind (tree_of left rs n) ≡ kind_of (record_no rs n).kind) × (fields_of (tree_of left rs n) ≡ (record_no rs n).fields)
  root = rw (tree_node_lem rs left n p q) (root_node rs n (left - 1) (kind_of (record_no rs n).kind) (record_no rs n).fields)

  pub tree_kind : (record_no rs n).kind ≡ kind_number (root_kind (tree_of left rs n))
  tree_kind = let (l, u) = w.kinds n q r in sym (ap kind_number root.0 ∙ number_back (record_no rs n).kind l u)

  pub tree_fields : (record_no rs n).fields ≡ fields_of (tree_of left rs n)
  tree_fields = sym root.1

  pub tree_chain : Chain rs (left - 1) n (record_no rs n).first (kids (tree_of left rs n))
  tree_chain = rw (w.links.first n q r, tree_node_lem rs left n p q) (kids_chain rs n (left - 1) (kind_of (record_no rs n).kind) (record_no rs n).fields (w.chained n q r))
