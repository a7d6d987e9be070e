-- The terms that arguments stand for, written out: the tree at an argument's place, copied, and the records that are made over it.
use Rattle.std.specs.Prelude.{ℕ, ◌+◌, ◌*◌, ◌<◌, ◌≤◌, List, ◌≡◌, length, set}
use Rattle.rules.specs.Kinds.{Unary, Kind, unary₁}
use Rattle.rules.specs.Terms.{Term, unary, size}
use Rattle.rules.specs.FreeBounds.{free_bound}
use Rattle.rules.specs.Indices.{raised}
use Rattle.rules.specs.Format.{Record}
use Rattle.terms.specs.Preorder.{head, At}
use Rattle.substitution.specs.declared.arguments.Argument.{Argument}
use Rattle.substitution.specs.Arguments.{function_fields, StandsFor}
use Rattle.copies.specs.Copying.{Written}

-- The tree u stands after dst, so that a root over it can be written to dst. The measures of the two fit 16 bits.
pub record UnderRoot (rs : List Record) (dst : ℕ) (u : Term) : Type 0 where
  pub there : At rs (dst + 1) u
  pub few : size u < 65535
  pub low : 2 * free_bound u + 1 < 65536

pub record CanPutOver (rs : List Record) (dst : ℕ) (kind : Kind) : Type 0 where
  pub sort : Unary
  pub is : kind ≡ unary₁ sort
  pub tree : Term
  pub under : UnderRoot rs dst tree

-- A root of this kind, of type ty and with the field a, is written over the tree after dst, with its measures, and r is the place after that tree.
pub record PutsOver (rs rs' : List Record) (dst : ℕ) (kind : Kind) (ty a r : ℕ) : Type 0 where
  pub does : (k : Unary) (u : Term) → kind ≡ unary₁ k → UnderRoot rs dst u → (rs' ≡ set rs dst (head (unary k (function_fields ty a) u))) × (r ≡ dst + 1 + size u)

-- The term t that the argument stands for can be written to dst, its free indices raised by n.
pub record MakingAt (rs : List Record) (lo hi : ℕ) (g : Argument) (dst n : ℕ) (t : Term) : Type 0 where
  pub stands : StandsFor rs lo hi g t
  pub start : lo ≤ dst
  pub room : dst + size t ≤ hi
  pub within : hi ≤ length rs
  pub few : hi < 65536
  pub low : free_bound stands.tree + 4 * size stands.tree + n < 32767

pub record CanCopyArgument (rs : List Record) (g : Argument) (dst n : ℕ) : Type 0 where
  pub lo : ℕ
  pub hi : ℕ
  pub term : Term
  pub makes : MakingAt rs lo hi g dst n term

pub record CopiesArgument (rs rs' : List Record) (g : Argument) (dst n r : ℕ) : Type 0 where
  pub does : (lo hi : ℕ) (t : Term) → MakingAt rs lo hi g dst n t → Written rs rs' dst (raised n t) r
