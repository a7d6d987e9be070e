-- A term in a list of records: document 01's "tree of records without links", in preorder. In place of links the record of a root holds measures of
-- its tree: first, how many records the tree has; next, how far its free indices reach and whether it is plain. So a tree is passed over, told
-- closed or told plain by one read. The measures turn on the tree alone, so that a block copy of a tree carries right measures with it.
use Rattle.std.specs.Prelude.{ℕ, ◌+◌, ◌*◌, ◌≤◌, List, [], ◌∷◌, ◌++◌, ◌⊎◌, ◌≡◌, length, set, take, drop}
use Rattle.rules.specs.Lists.{pick}
use Rattle.rules.specs.Terms.{Term, leaf, unary, binary, ternary, root_kind, fields_of, size}
use Rattle.rules.specs.FreeBounds.{free_bound}
use Rattle.rules.specs.Values.{plain}
use Rattle.rules.specs.Format.{Record}
use Rattle.rules.specs.Links.{linked}

-- The free bound and whether the tree is plain, in one number.
abbrev pub bound_and_plain : Term → ℕ
bound_and_plain t = 2 * free_bound t + pick (plain t) 1 0

-- The record of a term's root, with the measures of its tree.
abbrev pub head : Term → Record
head t = linked (root_kind t) (fields_of t) (size t) (bound_and_plain t)

-- The records of a term, each with its measures.
unfoldable pub preorder : Term → List Record
preorder (leaf k f) = head (leaf k f) ∷ []
preorder (unary k f t) = head (unary k f t) ∷ preorder t
preorder (binary k f t u) = head (binary k f t u) ∷ (preorder t ++ preorder u)
preorder (ternary k f t s e) = head (ternary k f t s e) ∷ (preorder t ++ (preorder s ++ preorder e))

-- n records from i on.
abbrev pub part : List Record → ℕ → ℕ → List Record
part rs i n = take n (drop i rs)

-- The records xs stand in rs from place i on.
pub record There (rs : List Record) (i : ℕ) (xs : List Record) : Type 0 where
  pub within : i + length xs ≤ length rs
  pub is : part rs i (length xs) ≡ xs

-- The tree t stands at i.
pub record At (rs : List Record) (i : ℕ) (t : Term) : Type 0 where
  pub there : There rs i (preorder t)

-- Some tree does.
pub record HasTree (rs : List Record) (i : ℕ) : Type 0 where
  pub tree : Term
  pub there : At rs i tree

-- r is the place after the tree at i.
pub record Skips (rs : List Record) (i r : ℕ) : Type 0 where
  pub is : (t : Term) → At rs i t → r ≡ i + size t

-- The records with vs in place of those from i on.
unfoldable pub puts : List Record → ℕ → List Record → List Record
puts rs i [] = rs
puts rs i (v ∷ vs) = puts (set rs i v) (i + 1) vs

-- rs' is rs with vs stored from dst on, and r is the place after them.
pub record Stored (rs rs' : List Record) (dst : ℕ) (vs : List Record) (r : ℕ) : Type 0 where
  pub records : rs' ≡ puts rs dst vs
  pub end : r ≡ dst + length vs

-- n records from src on and n from dst on have none in common.
abbrev pub Apart : ℕ → ℕ → ℕ → Type 0
Apart src dst n = (src + n ≤ dst) ⊎ (dst + n ≤ src)
