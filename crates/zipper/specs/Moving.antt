-- The hole that is left where a redex is taken out, and how it is filled: by a tree that is moved up to the front of the right side.
use Rattle.std.specs.Prelude.{ℕ, ◌+◌, ◌≤◌, List, ◌∷◌, ◌≡◌, length}
use Rattle.rules.specs.Kinds.{Ternary}
use Rattle.rules.specs.Terms.{Fields, Term, size}
use Rattle.rules.specs.Format.{Record, most_records}
use Rattle.contexts.specs.Contexts.{first₃, Context}
use Rattle.zipper.specs.declared.focus.Focus.{Focus}
use Rattle.zipper.specs.declared.focus.Ahead.{Ahead}
use Rattle.terms.specs.Preorder.{At}
use Rattle.zipper.specs.Layout.{Around}
use Rattle.zipper.specs.Focusing.{LaidAt, AheadAt}

-- n records from src on can be copied up to dst. The two parts may have records in common.
pub record CanMoveUp (rs : List Record) (src dst n : ℕ) : Type 0 where
  pub up : src ≤ dst
  pub to : dst + n ≤ length rs

-- The hole is at h: the left side ends at its l and the right side begins at its r.
abbrev pub HoleAt : List Record → Ahead → Context → Type 0
HoleAt rs h C = Around rs C h.l h.r h.top

-- u, of n records at src, stands between the sides of the hole, and the gap stays wide enough where u is at its end.
pub record Fills (rs : List Record) (h : Ahead) (src n : ℕ) (C : Context) (u : Term) : Type 0 where
  pub hole : HoleAt rs h C
  pub there : At rs src u
  pub count : n ≡ size u
  pub to : src + n ≤ h.r
  pub room : h.l + most_records + n ≤ h.r

pub record CanPutAhead (rs : List Record) (h : Ahead) (src n : ℕ) : Type 0 where
  pub context : Context
  pub tree : Term
  pub fills : Fills rs h src n context tree

-- The tree is the focus then; l, the frame and the level are the hole's.
pub record PutsAhead (rs rs' : List Record) (h : Ahead) (src n : ℕ) (r : Ahead) : Type 0 where
  pub does : (C : Context) (u : Term) → Fills rs h src n C u → AheadAt rs' r C u
  pub left : r.l ≡ h.l
  pub place : r.r + n ≡ h.r
  pub level : r.level ≡ h.level

-- r is the hole of the focus z, at this level.
pub record IsHole (z : Focus) (level : ℕ) (r : Ahead) : Type 0 where
  pub is : r ≡ record { l = z.s; r = z.r; top = z.top; level = level }

-- The focus is the code of a match, its frame; r is the hole of the match.
pub record HasMatch (rs : List Record) (z : Focus) : Type 0 where
  pub kind : Ternary
  pub fields : Fields
  pub success : Term
  pub failure : Term
  pub context : Context
  pub code : Term
  pub laid : LaidAt rs z (first₃ kind fields success failure ∷ context) code

pub record Drops (rs : List Record) (z : Focus) (r : Ahead) : Type 0 where
  pub hole : (k : Ternary) (f : Fields) (s e : Term) (C : Context) (q : Term) → LaidAt rs z (first₃ k f s e ∷ C) q → HoleAt rs r C
  pub left : r.l ≡ z.top
  pub end : (k : Ternary) (f : Fields) (s e : Term) (C : Context) (q : Term) → LaidAt rs z (first₃ k f s e ∷ C) q → r.r ≡ z.r + size s + size e
  pub level : r.level ≡ 0
