-- Going down from a focus to a tree inside it: the records on the way become frames, the innermost last.
use Rattle.std.specs.Prelude.{ℕ, ◌+◌, ◌≤◌, ◌<◌, List, ◌++◌, ◌≡◌}
use Rattle.rules.specs.Terms.{Term, size}
use Rattle.rules.specs.Format.{Record}
use Rattle.terms.specs.Children.{kids, sizes, preorders}
use Rattle.contexts.specs.Contexts.{Frame, fill, children_before, hole_number, Context, plug, level_at, left_size}
use Rattle.zipper.specs.declared.focus.Ahead.{Ahead}
use Rattle.terms.specs.Preorder.{There}
use Rattle.zipper.specs.Focusing.{AheadAt}

-- The children of F's tree stand from `first` on, and the record at p is in the one in its hole, v.
pub record Leads (rs : List Record) (first p : ℕ) (F : Frame) (v : Term) : Type 0 where
  pub there : There rs first (preorders (kids (fill F v)))
  pub from : first + sizes (children_before F) ≤ p
  pub below : p < first + sizes (children_before F) + size v

pub record CanTellChild (rs : List Record) (first p : ℕ) : Type 0 where
  pub frame : Frame
  pub inner : Term
  pub leads : Leads rs first p frame inner

pub record TellsChild (rs : List Record) (first p j : ℕ) : Type 0 where
  pub is : (F : Frame) (v : Term) → Leads rs first p F v → hole_number F ≡ j

-- The root at p is that of u, which is in the hole of D in the focus.
pub record Towards (rs : List Record) (a : Ahead) (p : ℕ) (D C : Context) (u : Term) : Type 0 where
  pub laid : AheadAt rs a C (plug D u)
  pub place : p ≡ a.r + left_size D
  pub at_level : a.level ≡ level_at 0 C

pub record CanDescend (rs : List Record) (a : Ahead) (p : ℕ) : Type 0 where
  pub inner : Context
  pub context : Context
  pub tree : Term
  pub towards : Towards rs a p inner context tree

-- The focus is u, in the whole context, and at its place.
pub record Descends (rs rs' : List Record) (a : Ahead) (p : ℕ) (r : Ahead) : Type 0 where
  pub does : (D C : Context) (u : Term) → Towards rs a p D C u → AheadAt rs' r (D ++ C) u
  pub level : (D C : Context) (u : Term) → Towards rs a p D C u → r.level ≡ level_at 0 (D ++ C)
  pub place : r.r ≡ p
