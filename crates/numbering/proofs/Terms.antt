-- A term's records in preorder: the types that they name are the term's, and those of the term with other numbers are its records with these, since no
-- measure looks at types. Assumes nothing.
use Prim.Native.Nat.{ℕ, zero, suc, ◌+◌, ◌*◌}
use native.Mathlib.Omega.{arith}
use mathlib.Core.List.{List, [], ◌∷◌, ◌++◌, map, map-append, append-nil, append_assoc}
use mathlib.Core.Path.{◌≡◌, refl, ap, ap₂, sym, ◌∙◌}
use lib.ListN.{take}
use Rattle.rules.specs.Lists.{pick, joined}
use Rattle.rules.specs.Kinds.{Kind, leaf₀, unary₁, binary₂, ternary₃, kind_number, kind_of}
use Rattle.rules.specs.Terms.{Fields, Term, leaf, unary, binary, ternary, size}
use Rattle.rules.specs.FreeBounds.{own_bound}
use Rattle.rules.specs.Format.{Record}
use Rattle.rules.specs.Links.{linked}
use Rattle.order.specs.Order.{field_types, types_of_record, types_named, renumbered_fields, renumbered_record, renumbered_term}
use Rattle.order.specs.Alike.{Alike, leaves, unaries, binaries, ternaries}
use Rattle.rules.proofs.KindTable.{each_kind, kind_back}
use Rattle.order.proofs.Alike.{size_alike, plain_alike}
use Rattle.order.proofs.AlikeBounds.{bound_alike}
use Rattle.terms.specs.Preorder.{bound_and_plain, head, preorder, At}
use Rattle.terms.proofs.Trees.{length_preorder}
use Rattle.numbering.specs.Renumbering.{renumbered_front, front_names}
use Rattle.numbering.proofs.Fronts.{front_length}

-- The types that are named.
joined_append : (rs qs : List Record) → joined types_of_record (rs ++ qs) ≡ joined types_of_record rs ++ joined types_of_record qs
unfolding joined
joined_append [] qs = refl
joined_append (r ∷ rs) qs = ap (λ xs. types_of_record r ++ xs) (joined_append rs qs) ∙ sym (append_assoc (types_of_record r) (joined types_of_record rs) (joined types_of_record qs))

types_linked : (k : Kind) (f : Fields) → field_types (kind_of (kind_number k)) f ≡ field_types k f
types_linked k f = ap (λ j. field_types j f) (kind_back k)

named_preorder : (t : Term) → joined types_of_record (preorder t) ≡ types_named t
unfolding preorder types_named joined
named_preorder (leaf k f) = append-nil (types_of_record (head (leaf k f))) ∙ types_linked (leaf₀ k) f
named_preorder (unary k f t) = ap₂ ◌++◌ (types_linked (unary₁ k) f) (named_preorder t)
named_preorder (binary k f t u) = ap₂ ◌++◌ (types_linked (binary₂ k) f) (joined_append (preorder t) (preorder u) ∙ ap₂ ◌++◌ (named_preorder t) (named_preorder u))
named_preorder (ternary k f t s e) = ap₂ ◌++◌ (types_linked (ternary₃ k) f)
    (joined_append (preorder t) (preorder s ++ preorder e)
    ∙ ap₂ ◌++◌ (named_preorder t) (joined_append (preorder s) (preorder e) ∙ ap₂ ◌++◌ (named_preorder s) (named_preorder e)))

-- The tree at the front of a list.
module _ (rs : List Record) (t : Term) (h : At rs 0 t) where
  front_is : take (size t) rs ≡ preorder t
  front_is = ap (λ n. take n rs) (sym (length_preorder t)) ∙ h.there.is

  pub tree_names : front_names (size t) rs ≡ types_named t
  tree_names = ap (joined types_of_record) front_is ∙ named_preorder t

module _ (new : ℕ → ℕ) where
  -- The measures.
  abbrev By : Kind → Fields → Fields → Type 0
  By k f g = g ≡ renumbered_fields new k f

  like_renumbered : (t : Term) → Alike By t (renumbered_term new t)
  unfolding renumbered_term
  like_renumbered (leaf k f) = leaves k f _ refl
  like_renumbered (unary k f t) = unaries k f _ refl (like_renumbered t)
  like_renumbered (binary k f t u) = binaries k f _ refl (like_renumbered t) (like_renumbered u)
  like_renumbered (ternary k f t s e) = ternaries k f _ refl (like_renumbered t) (like_renumbered s) (like_renumbered e)

  own_renumbered : (f : Fields) (k : Kind) → own_bound k f ≡ own_bound k (renumbered_fields new k f)
  own_renumbered f = each_kind (λ k. own_bound k f ≡ own_bound k (renumbered_fields new k f)) (omega arith)

  pub size_renumbered : (t : Term) → size (renumbered_term new t) ≡ size t
  size_renumbered t = sym (size_alike (like_renumbered t))

  measure_renumbered : (t : Term) → bound_and_plain (renumbered_term new t) ≡ bound_and_plain t
  measure_renumbered t =
      sym (ap₂ (λ x y. 2 * x + pick y 1 0) (bound_alike (λ k f g e. own_renumbered f k ∙ ap (own_bound k) (sym e)) (like_renumbered t)) (plain_alike (like_renumbered t)))

  -- The records.
  linked_renumbered : (k : Kind) (f : Fields) {m m' n n' : ℕ} → m ≡ m' → n ≡ n' → linked k (renumbered_fields new k f) m n ≡ renumbered_record new (linked k f m' n')
  linked_renumbered k f p q = λ i. linked k (renumbered_fields new (sym (kind_back k) i) f) (p i) (q i)

  preorder_renumbered : (t : Term) → preorder (renumbered_term new t) ≡ map (renumbered_record new) (preorder t)
  unfolding preorder renumbered_term
  preorder_renumbered (leaf k f) =
      let v = leaf k f in
      ap (λ r. r ∷ []) (linked_renumbered (leaf₀ k) f (size_renumbered v) (measure_renumbered v))
  preorder_renumbered (unary k f t) =
      let v = unary k f t in
      ap₂ ◌∷◌ (linked_renumbered (unary₁ k) f (size_renumbered v) (measure_renumbered v)) (preorder_renumbered t)
  preorder_renumbered (binary k f t u) =
      let v = binary k f t u in
      ap₂ ◌∷◌ (linked_renumbered (binary₂ k) f (size_renumbered v) (measure_renumbered v))
      (ap₂ ◌++◌ (preorder_renumbered t) (preorder_renumbered u) ∙ sym (map-append (renumbered_record new) (preorder t) (preorder u)))
  preorder_renumbered (ternary k f t s e) =
      let v = ternary k f t s e in
      ap₂ ◌∷◌ (linked_renumbered (ternary₃ k) f (size_renumbered v) (measure_renumbered v))
      (ap₂ ◌++◌ (preorder_renumbered t) (ap₂ ◌++◌ (preorder_renumbered s) (preorder_renumbered e) ∙ sym (map-append (renumbered_record new) (preorder s) (preorder e)))
      ∙ sym (map-append (renumbered_record new) (preorder t) (preorder s ++ preorder e)))

  take_front : (k : ℕ) (rs : List Record) → take k (renumbered_front new k rs) ≡ map (renumbered_record new) (take k rs)
  unfolding renumbered_front
  take_front zero rs = refl
  take_front (suc k) [] = refl
  take_front (suc k) (r ∷ rs) = ap (◌∷◌ (renumbered_record new r)) (take_front k rs)

  pub renumbered_at : (rs : List Record) (t : Term) → At rs 0 t → At (renumbered_front new (size t) rs) 0 (renumbered_term new t)
  renumbered_at rs t h =
      let n = length_preorder (renumbered_term new t) ∙ size_renumbered t in
      record {
        there = record {
          within = omega (arith, n, front_length new (size t) rs, h.there.within, length_preorder t);
          is = ap (λ m. take m (renumbered_front new (size t) rs)) n ∙ (take_front (size t) rs ∙ (ap (map (renumbered_record new)) (front_is rs t h) ∙ sym (preorder_renumbered t)));
        };
      }
