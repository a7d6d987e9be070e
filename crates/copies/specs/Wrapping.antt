-- Copies in which each use of a variable is wrapped in a splice.
use Rattle.std.specs.Prelude.{ℕ, ◌+◌, ◌<◌, List, ◌≡◌, eqb, length}
use Rattle.rules.specs.Lists.{pick}
use Rattle.rules.specs.Kinds.{variable, splice}
use Rattle.rules.specs.Terms.{Fields, Term, leaf, unary, only_type}
use Rattle.rules.specs.Indices.{Change, with_index, raised_index}
use Rattle.rules.specs.Format.{Record}
use Rattle.terms.specs.Preorder.{head}
use Rattle.copies.specs.Copying.{Written}

-- A use of the variable, of type `code` now, in a splice of the type that it had.
abbrev pub spliced_use : ℕ → Fields → Term
spliced_use code f = unary splice (only_type f.type) (leaf variable (record { type = code; a = f.a; b = f.b; value = f.value }))

-- Each use of the variable of the binder next to d is wrapped and keeps its index, and indices beyond are raised by n: raising after wrapping, in
-- one walk (theorem `wraps_raised`).
unfoldable pub wrapping_under : ℕ → ℕ → Change
wrapping_under n code = record {
  on_variable = λ d f. pick (eqb f.a d) (spliced_use code f) (leaf variable (with_index f (raised_index n (d + 1) f.a)));
  on_index = λ d i. raised_index n (d + 1) i;
}

-- This way makes that change, and reaches n further.
pub record Wrapping (n code : ℕ) (rs : List Record) (lo hi : ℕ) (c : Change) (b : ℕ) : Type 0 where
  pub change : c ≡ wrapping_under n code
  pub reach : b ≡ n

-- A use with the fields f, whose record is r, is written to dst in its splice, and e is the place after it.
pub record PutsUse (rs rs' : List Record) (dst : ℕ) (r : Record) (code e : ℕ) : Type 0 where
  pub does : (f : Fields) → r ≡ head (leaf variable f) → Written rs rs' dst (spliced_use code f) e

-- Two records can be written to dst.
pub record RoomForUse (rs : List Record) (dst : ℕ) : Type 0 where
  pub two : dst + 1 < length rs
