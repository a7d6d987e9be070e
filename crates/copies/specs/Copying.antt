-- Copies of trees in which variables may give way to others: what a copy needs, and what it writes. One contract serves wrapping and replacing.
use Rattle.std.specs.Prelude.{ℕ, ◌+◌, ◌*◌, ◌<◌, ◌≤◌, List, Bool, false, ◌⊎◌, ◌≡◌, eqb, length, set}
use Rattle.rules.specs.Lists.{pick}
use Rattle.rules.specs.Kinds.{kind_of}
use Rattle.rules.specs.Terms.{Term, size}
use Rattle.rules.specs.FreeBounds.{free_bound}
use Rattle.rules.specs.Indices.{Change, with_index, changed, names_removed, gave_way}
use Rattle.rules.specs.Format.{Record}
use Rattle.terms.specs.Preorder.{puts, preorder, At}
use Rattle.terms.specs.Moves.{Moved}
use Rattle.copies.specs.Roots.{moved_field}

-- A way to copy says which changes it makes, by what stands in the records outside of those from lo on and before hi, and how far what it puts in
-- reaches: a free bound that it puts into a tree is at most b and the binders over it.
abbrev pub Way : Type 1
Way = List Record → ℕ → ℕ → Change → ℕ → Type 0

-- A tree of n records at i is outside of the records from lo on and before hi.
abbrev pub Outside : ℕ → ℕ → ℕ → ℕ → Type 0
Outside lo hi i n = (i + n ≤ lo) ⊎ (hi ≤ i)

-- The tree t, at src in a list of `long` records, and its copy at dst have their places: the copy is written inside of the free records, the tree
-- is outside of them, and no index and no measure gets too large.
pub record Fitting (c : Change) (b long lo hi src dst d : ℕ) (t : Term) : Type 0 where
  pub outside : Outside lo hi src (size t)
  pub start : lo ≤ dst
  pub room : dst + size (changed c d t) ≤ hi
  pub within : hi ≤ long
  pub few : hi < 65536
  pub low : free_bound t + d + 4 * size t + b < 32767

-- t, at src, can be copied to dst with the change c under d binders of its own.
pub record CopyAt (c : Change) (b : ℕ) (rs : List Record) (lo hi src dst d : ℕ) (t : Term) : Type 0 where
  pub there : At rs src t
  pub fits : Fitting c b (length rs) lo hi src dst d t

pub record CanCopy (M : Way) (rs : List Record) (src dst d : ℕ) : Type 0 where
  pub lo : ℕ
  pub hi : ℕ
  pub reach : ℕ
  pub change : Change
  pub tree : Term
  pub meant : M rs lo hi change reach
  pub copy : CopyAt change reach rs lo hi src dst d tree

-- The records of t are written from dst on, and r is the place after them.
pub record Written (rs rs' : List Record) (dst : ℕ) (t : Term) (r : ℕ) : Type 0 where
  pub records : rs' ≡ puts rs dst (preorder t)
  pub end : r ≡ dst + size t

pub record Copies (M : Way) (rs rs' : List Record) (src dst d r : ℕ) : Type 0 where
  pub does : (lo hi b : ℕ) (c : Change) (t : Term) → M rs lo hi c b → CopyAt c b rs lo hi src dst d t → Written rs rs' dst (changed c d t) r

-- n is how many variables of the copied tree name one of the m binders next to d.
pub record Counts (M : Way) (m : ℕ) (rs : List Record) (src dst d n : ℕ) : Type 0 where
  pub is : (lo hi b : ℕ) (c : Change) (t : Term) → M rs lo hi c b → CopyAt c b rs lo hi src dst d t → n ≡ gave_way m d t

-- n is the size of the tree at `at`.
pub record TreeSize (rs : List Record) (at n : ℕ) : Type 0 where
  pub is : (t : Term) → At rs at t → n ≡ size t

-- The n records from src on are written to dst as they are, and r is the place after them.
pub record BlockMoved (rs rs' : List Record) (src dst n r : ℕ) : Type 0 where
  pub moved : Moved rs rs' src dst n
  pub end : r ≡ dst + n

-- Whether a root with so many children, whose bound is above d, is a variable with an index i of one of the m binders next to d.
unfoldable pub is_named : ℕ → ℕ → ℕ → ℕ → Bool
is_named children m d i = pick (eqb children 0) (names_removed m d i) false

-- A root's record with its index moved.
abbrev pub moved_record : (ℕ → ℕ) → Record → Record
moved_record moved r = record { kind = r.kind; fields = with_index r.fields (moved_field moved (kind_of r.kind) r.fields.a); first = r.first; next = r.next }

-- It is written to dst.
pub record MovesRoot (moved : ℕ → ℕ) (rs rs' : List Record) (dst : ℕ) (r : Record) : Type 0 where
  pub is : rs' ≡ set rs dst (moved_record moved r)

-- The record r is written to dst with the field a.
pub record PutsIndexed (rs rs' : List Record) (dst : ℕ) (r : Record) (a : ℕ) : Type 0 where
  pub is : rs' ≡ set rs dst (record { kind = r.kind; fields = with_index r.fields a; first = r.first; next = r.next })
