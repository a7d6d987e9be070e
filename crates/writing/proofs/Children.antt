-- A term's children as a list, and how they are laid one after another. So a record's first, second and third child go by one law. Assumes nothing.
use Prim.Native.Nat.{ℕ, ◌+◌}
use mathlib.Core.Path.{◌≡◌, refl, sym, ap, ◌∙◌}
use mathlib.Core.List.{List, [], ◌∷◌, ◌++◌, append-nil}
use lib.ListN.{length, get_or}
use Rattle.rules.specs.Kinds.{child_count, kind_of}
use Rattle.rules.specs.Terms.{Term, leaf, unary, binary, ternary, root_kind, fields_of, size}
use Rattle.rules.specs.Format.{Record, no_record}
use Rattle.rules.specs.Links.{linked, laid}
use Rattle.rules.proofs.KindTable.{kind_back}
use Rattle.terms.specs.Preorder.{At}
use Rattle.terms.proofs.Trees.{at_head, kind_at}
use Rattle.terms.proofs.Children.{kids, kids_count}
use Rattle.writing.specs.Slots.{link_to, headed}

-- The records of trees that are siblings, the first with number n.
unfoldable pub laid_all : List Term → ℕ → List Record
laid_all [] n = []
laid_all (t ∷ ts) n = laid n (link_to (length ts) (n + size t)) t ++ laid_all ts (n + size t)

-- The root's record as record n.
abbrev pub root_laid : ℕ → ℕ → Term → Record
root_laid n next t = linked (root_kind t) (fields_of t) (link_to (child_count (root_kind t)) (n + 1)) next

-- A tree is its root and its children.
pub laid_children : (n next : ℕ) (t : Term) → laid n next t ≡ root_laid n next t ∷ laid_all (kids t) (n + 1)
unfolding laid laid_all kids link_to
laid_children n next (leaf k f) = refl
laid_children n next (unary k f t) = simp append-nil
laid_children n next (binary k f t u) = simp append-nil
laid_children n next (ternary k f t s e) = simp append-nil

-- What is written for the root is its record, and what is told is the number of the children.
module _ (rs : List Record) (i : ℕ) (t : Term) (h : At rs i t) where
  pub headed_root : (n next : ℕ) → headed (get_or rs i no_record) n next ≡ root_laid n next t
  unfolding headed
  headed_root n next = rw (at_head rs i t h) (ap (λ k. linked (root_kind t) (fields_of t) (link_to (child_count k) (n + 1)) next) (kind_back (root_kind t)))

  pub children_of_root : child_count (kind_of (get_or rs i no_record).kind) ≡ length (kids t)
  children_of_root = ap child_count (kind_at rs i t h) ∙ sym (kids_count t)
