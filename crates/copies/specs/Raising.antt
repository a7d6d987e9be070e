-- A copy of a tree with its free indices raised, with the measures of the copy.
use Rattle.std.specs.Prelude.{ℕ, ◌+◌, ◌*◌, ◌<◌, ◌≤◌, List, ◌≡◌, length, set}
use Rattle.rules.specs.Kinds.{Kind}
use Rattle.rules.specs.Terms.{Term, size}
use Rattle.rules.specs.FieldUses.{an_index, uses}
use Rattle.rules.specs.FreeBounds.{free_bound}
use Rattle.rules.specs.Indices.{changed, raising, raised_index}
use Rattle.rules.specs.Format.{Record}
use Rattle.terms.specs.Preorder.{puts, Apart, head, preorder, At}

-- An index a of a record of kind k can be raised, where it has one.
pub record FieldFits (n d : ℕ) (k : Kind) (a : ℕ) : Type 0 where
  pub index : (uses k).a ≡ an_index → raised_index n d a < 65536

-- t, at src, can be copied to dst with the indices beyond d binders raised by n: no index and no measure gets too large.
pub record RaisingAt (rs : List Record) (src dst n d : ℕ) (t : Term) : Type 0 where
  pub there : At rs src t
  pub room : dst + size t ≤ length rs
  pub apart : Apart src dst (size t)
  pub small : 2 * (free_bound t + 2 * size t + n) + 1 < 65536
  pub deep : d + 2 * size t < 65536

pub record CanRaise (rs : List Record) (src dst n d : ℕ) : Type 0 where
  pub tree : Term
  pub raises : RaisingAt rs src dst n d tree

pub record Raises (rs rs' : List Record) (src dst n d : ℕ) : Type 0 where
  pub does : (t : Term) → RaisingAt rs src dst n d t → rs' ≡ puts rs dst (preorder (changed (raising n) d t))

-- The same of its root, where some index is free beyond d binders.
pub record CanRaiseRoot (rs : List Record) (src dst n d : ℕ) : Type 0 where
  pub tree : Term
  pub raises : RaisingAt rs src dst n d tree
  pub free : d < free_bound tree

pub record RaisesRoot (rs rs' : List Record) (src dst n d : ℕ) : Type 0 where
  pub does : (t : Term) → RaisingAt rs src dst n d t → d < free_bound t → rs' ≡ set rs dst (head (changed (raising n) d t))
