-- What is read of a tree's measures, and how they are made of a root and its children's.
use Rattle.std.specs.Prelude.{ℕ, zero, suc, ◌+◌, ◌-◌, ◌*◌, ◌≤◌, ◌<◌, max, List, Bool, ◌&&◌, ◌≡◌, length, get_or, set, eqb}
use Rattle.rules.specs.Kinds.{Kind, kind_number, kind_of}
use Rattle.rules.specs.Terms.{Fields, Term, root_kind, fields_of, size}
use Rattle.rules.specs.Binders.{binders_first, binders_second}
use Rattle.rules.specs.FieldUses.{an_index, uses}
use Rattle.rules.specs.FreeBounds.{own_bound, free_bound}
use Rattle.rules.specs.Values.{plain}
use Rattle.rules.specs.Format.{Record, no_record}
use Rattle.kinds.specs.declared.names.Kind.{Kind as NamedKind}
use Rattle.kinds.specs.Named.{kind_meant, IsKind, is_match}
use Rattle.terms.specs.Children.{kids, preorders}
use Rattle.terms.specs.declared.measuring.Measure.{Measure}
use Rattle.terms.specs.Preorder.{head, There, At}

-- The free bound of t and twice its records are at most n together. A root binds two variables at most, so that it is so of each tree inside; where n
-- is below 32,768 their measures fit 16 bits.
abbrev pub Low : ℕ → Term → Type 0
Low n t = free_bound t + 2 * size t ≤ n

-- The record at i has a known kind.
pub record HasKind (rs : List Record) (i : ℕ) : Type 0 where
  pub within : i < length rs
  pub known : IsKind (get_or rs i no_record).kind

-- k names the kind of the record at i.
pub record KindIs (rs : List Record) (i : ℕ) (k : NamedKind) : Type 0 where
  pub is : kind_meant k ≡ kind_of (get_or rs i no_record).kind

-- b tells whether the record at i is of kind k, and whether it is a match.
pub record RootIs (rs : List Record) (i : ℕ) (k : NamedKind) (b : Bool) : Type 0 where
  pub is : b ≡ eqb (get_or rs i no_record).kind (kind_number (kind_meant k))

pub record MatchIs (rs : List Record) (i : ℕ) (b : Bool) : Type 0 where
  pub is : b ≡ is_match (kind_of (get_or rs i no_record).kind)

-- b is the free bound of the tree at i, and p says whether it is plain.
pub record BoundIs (rs : List Record) (i b : ℕ) : Type 0 where
  pub is : (t : Term) → At rs i t → b ≡ free_bound t

pub record PlainIs (rs : List Record) (i : ℕ) (p : Bool) : Type 0 where
  pub is : (t : Term) → At rs i t → p ≡ plain t

-- How many variables a record of kind k binds over its child j, counted from 0.
abbrev pub binders_over : Kind → ℕ → ℕ
binders_over k zero = binders_first k
binders_over k (suc zero) = binders_second k
binders_over k (suc (suc j)) = 0

-- The index a of a record of kind k can be counted from 1, where it has one.
pub record OwnIndexFits (k : Kind) (a : ℕ) : Type 0 where
  pub index : (uses k).a ≡ an_index → a + 1 < 65536

-- b is what the index a of a record of kind k adds to the bound of its tree.
pub record OwnIs (k : Kind) (a b : ℕ) : Type 0 where
  pub is : (f : Fields) → f.a ≡ a → b ≡ own_bound k f

-- r is m with the child at its end, over which `binders` variables are bound.
pub record Joins (rs : List Record) (m : Measure) (binders : ℕ) (r : Measure) : Type 0 where
  pub end : (t : Term) → At rs m.end t → r.end ≡ m.end + size t
  pub bound : (t : Term) → At rs m.end t → r.bound ≡ max m.bound (free_bound t - binders)
  pub plain : (t : Term) → At rs m.end t → r.plain ≡ m.plain && plain t

-- The record at i is that of t's root but for its measures, and its children follow it with theirs. Its own measures fit 16 bits.
pub record RootedAt (rs : List Record) (i : ℕ) (t : Term) : Type 0 where
  pub within : i < length rs
  pub kind : (get_or rs i no_record).kind ≡ kind_number (root_kind t)
  pub fields : (get_or rs i no_record).fields ≡ fields_of t
  pub children : There rs (i + 1) (preorders (kids t))
  pub few : size t < 65536
  pub low : 2 * free_bound t + 1 < 65536

pub record HasRooted (rs : List Record) (i : ℕ) : Type 0 where
  pub tree : Term
  pub there : RootedAt rs i tree

-- m is the measure of the tree whose root is at i.
pub record MeasuresTree (rs : List Record) (i : ℕ) (m : Measure) : Type 0 where
  pub end : (t : Term) → RootedAt rs i t → m.end ≡ i + size t
  pub bound : (t : Term) → RootedAt rs i t → m.bound ≡ free_bound t
  pub plain : (t : Term) → RootedAt rs i t → m.plain ≡ plain t

-- rs' is rs with other links in the record at i.
pub record Relinks (rs rs' : List Record) (i first next : ℕ) : Type 0 where
  pub is : rs' ≡ set rs i (record { kind = (get_or rs i no_record).kind; fields = (get_or rs i no_record).fields; first = first; next = next })

-- rs' is rs with the measures of the tree whose root is at i, and r is the place after it.
pub record MarksRoot (rs rs' : List Record) (i r : ℕ) : Type 0 where
  pub does : (t : Term) → RootedAt rs i t → (rs' ≡ set rs i (head t)) × (r ≡ i + size t)
