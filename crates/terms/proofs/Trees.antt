-- Trees in a list of records: how many records they are, where they lie, and what is read there. The place after a tree, its free bound and whether
-- it is plain are one read, at its root and at the root of each tree inside.
use Prim.Native.Nat.{ℕ, ◌+◌, ◌≤◌, ◌<◌}
use native.Mathlib.Omega.{arith}
use mathlib.Core.List.{List, [], ◌∷◌, ◌++◌, append-nil, append_assoc}
use mathlib.Core.Path.{◌≡◌, refl, ap, ap₂, ◌∙◌}
use lib.ListN.{length, get_or, length-append}
use Rattle.rules.specs.Kinds.{kind_number, kind_of}
use Rattle.rules.specs.Terms.{Term, leaf, unary, binary, ternary, root_kind, size}
use Rattle.rules.specs.Format.{Record, no_record}
use Rattle.rules.proofs.KindTable.{kind_back}
use Rattle.terms.specs.Preorder.{bound_and_plain, head, preorder, There, At, puts}
use Rattle.terms.specs.Children.{kids, sizes, preorders}
use Rattle.terms.proofs.There.{there_first, there_rest, there_head, there_put}

-- How many records they are.
pub length_preorder : (t : Term) → length (preorder t) ≡ size t
unfolding preorder size
length_preorder (leaf k f) = refl
length_preorder (unary k f t) = omega (arith, length_preorder t)
length_preorder (binary k f t u) = omega (arith, length-append (preorder t) (preorder u), length_preorder t, length_preorder u)
length_preorder (ternary k f t s e) =
    omega (arith, length-append (preorder t) (preorder s ++ preorder e), length-append (preorder s) (preorder e), length_preorder t, length_preorder s, length_preorder e)

pub length_preorders : (ts : List Term) → length (preorders ts) ≡ sizes ts
unfolding preorders sizes
length_preorders [] = refl
length_preorders (t ∷ ts) = length-append (preorder t) (preorders ts) ∙ ap₂ ◌+◌ (length_preorder t) (length_preorders ts)

-- The root's record, and those of its children.
pub preorder_kids : (t : Term) → preorder t ≡ head t ∷ preorders (kids t)
unfolding kids preorder preorders
preorder_kids (leaf k f) = refl
preorder_kids (unary k f t) = simp append-nil
preorder_kids (binary k f t u) = simp append-nil
preorder_kids (ternary k f t s e) = simp append-nil

pub preorders_append : (ts us : List Term) → preorders (ts ++ us) ≡ preorders ts ++ preorders us
unfolding preorders
preorders_append [] us = refl
preorders_append (t ∷ ts) us = ap (λ l. preorder t ++ l) (preorders_append ts us) ∙ (simp append_assoc)

-- What is read at a tree.
module _ (rs : List Record) (i : ℕ) (t : Term) (h : At rs i t) where
  rooted : There rs i (head t ∷ preorders (kids t))
  rooted = rw (preorder_kids t) at h.there

  pub at_first : i < length rs
  at_first = (there_head rs i (head t) (preorders (kids t)) rooted).0

  pub at_head : get_or rs i no_record ≡ head t
  at_head = (there_head rs i (head t) (preorders (kids t)) rooted).1

  pub kind_read : (get_or rs i no_record).kind ≡ kind_number (root_kind t)
  kind_read = ap (λ r. r.kind) at_head

  pub kind_at : kind_of (get_or rs i no_record).kind ≡ root_kind t
  kind_at = ap kind_of kind_read ∙ kind_back (root_kind t)

  pub size_read : (get_or rs i no_record).first ≡ size t
  size_read = ap (λ r. r.first) at_head

  pub measure_read : (get_or rs i no_record).next ≡ bound_and_plain t
  measure_read = ap (λ r. r.next) at_head

  pub at_within : i + size t ≤ length rs
  at_within = omega (arith, h.there.within, length_preorder t)

  pub kids_there : There rs (i + 1) (preorders (kids t))
  kids_there = there_rest rs i (head t ∷ []) (preorders (kids t)) rooted

-- Trees one after another: the first, and those after it.
pub first_tree : (rs : List Record) (i : ℕ) (u : Term) (us : List Term) → There rs i (preorders (u ∷ us)) → At rs i u
unfolding preorders
first_tree rs i u us h = record { there = there_first rs i (preorder u) (preorders us) h }

pub later_trees : (rs : List Record) (i : ℕ) (u : Term) (us : List Term) → There rs i (preorders (u ∷ us)) → There rs (i + size u) (preorders us)
unfolding preorders
later_trees rs i u us h = rw (length_preorder u) at (there_rest rs i (preorder u) (preorders us) h)

-- A tree that is written is there.
pub puts_at : (rs : List Record) (i : ℕ) (t : Term) → i + size t ≤ length rs → At (puts rs i (preorder t)) i t
puts_at rs i t h = record { there = there_put rs i (preorder t) (omega (arith, length_preorder t)) }
