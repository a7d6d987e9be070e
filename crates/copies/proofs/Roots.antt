-- The root of a tree that is changed, where it stays a root: its kind, its index and its children.
use Prim.Native.Nat.{ℕ, suc, ◌+◌}
use native.Mathlib.Nat.{add_comm, add-zero}
use mathlib.Core.List.{List, [], ◌∷◌}
use mathlib.Core.Path.{◌≡◌, refl, ap}
use Rattle.rules.specs.Kinds.{number, variable, Unary, function, fix, lift, quote, splice, application, Ternary, match_variable, match_shape, match, match_number, match_application, match_lift, match_function, match_fix, Kind, unary₁, ternary₃}
use Rattle.rules.specs.Binders.{binders_first, binders_second}
use Rattle.rules.specs.Terms.{Fields, Term, leaf, unary, binary, ternary, root_kind, fields_of}
use Rattle.rules.specs.Indices.{Change, with_index, on_fields, changed}
use Rattle.terms.specs.Children.{kids}
use Rattle.terms.specs.Measuring.{binders_over}
use Rattle.terms.proofs.Joined.{first_over, second_over}
use Rattle.copies.specs.Roots.{moved_field}

-- The children of the changed tree, from child j on.
unfoldable pub changed_children : Change → ℕ → Kind → ℕ → List Term → List Term
changed_children c d k j [] = []
changed_children c d k j (t ∷ ts) = changed c (d + binders_over k j) t ∷ changed_children c d k (suc j) ts

-- The root stays, its index moved.
pub record Kept (c : Change) (d : ℕ) (t : Term) : Type 0 where
  pub kind : root_kind (changed c d t) ≡ root_kind t
  pub fields : fields_of (changed c d t) ≡ with_index (fields_of t) (moved_field (c.on_index d) (root_kind t) (fields_of t).a)
  pub children : kids (changed c d t) ≡ changed_children c d (root_kind t) 0 (kids t)

module _ (c : Change) (d : ℕ) where
  unary_moved : (k : Unary) (a : ℕ) → a ≡ moved_field (c.on_index d) (unary₁ k) a
  unfolding moved_field
  unary_moved function a = refl
  unary_moved fix a = refl
  unary_moved lift a = refl
  unary_moved quote a = refl
  unary_moved splice a = refl

  match_moved : (k : Ternary) (f : Fields) → on_fields c d k f ≡ with_index f (moved_field (c.on_index d) (ternary₃ k) f.a)
  unfolding moved_field
  match_moved (match match_variable) f = refl
  match_moved (match (match_shape match_number)) f = refl
  match_moved (match (match_shape match_application)) f = refl
  match_moved (match (match_shape match_lift)) f = refl
  match_moved (match (match_shape match_function)) f = refl
  match_moved (match (match_shape match_fix)) f = refl

  -- So it is of every root but a variable that doesn't stay one.
  pub root_kept : (t : Term) → ((f : Fields) → t ≡ leaf variable f → c.on_variable d f ≡ leaf variable (with_index f (c.on_index d f.a))) → Kept c d t
  unfolding changed moved_field kids changed_children
  root_kept (leaf number f) v = record { kind = refl; fields = refl; children = refl }
  root_kept (leaf variable f) v = let e = v f refl in record { kind = rw e; fields = rw e; children = rw e }
  root_kept (unary k f t) v = record { kind = refl; fields = ap (with_index f) (unary_moved k f.a); children = rw (first_over f (unary₁ k), add_comm (binders_first (unary₁ k)) d) }
  root_kept (binary application f t u) v = record { kind = refl; fields = refl; children = rw (add-zero d) }
  root_kept (ternary k f t s e) v = record { kind = refl; fields = match_moved k f; children = rw (second_over f (ternary₃ k), add_comm (binders_second (ternary₃ k)) d, add-zero d) }
