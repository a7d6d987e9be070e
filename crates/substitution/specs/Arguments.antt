-- Arguments: which term each stands for, and where its tree is read.
use Rattle.std.specs.Prelude.{ℕ, ◌<◌, List, Bool, ◌≡◌, None, Some, length, get_or, eqb}
use Rattle.rules.specs.Lists.{pick}
use Rattle.rules.specs.Kinds.{function}
use Rattle.rules.specs.Terms.{Fields, Term, unary, size}
use Rattle.rules.specs.Indices.{wrapped}
use Rattle.rules.specs.Matching.{quoted}
use Rattle.rules.specs.Format.{Record}
use Rattle.terms.specs.Preorder.{At}
use Rattle.copies.specs.Copying.{Outside}
use Rattle.substitution.specs.declared.arguments.Argument.{Argument}
use Rattle.substitution.specs.declared.arguments.Argument.TheVariants.{Tree, Quote, Opened}
use Rattle.substitution.specs.declared.arguments.Arguments.{Arguments}

-- The place of an argument's tree.
unfoldable pub place_of : Argument → ℕ
place_of (Tree at) = at
place_of (Quote at ty) = at
place_of (Opened at ty a b) = at

-- The fields of a function of type n with argument type p.
abbrev pub function_fields : ℕ → ℕ → Fields
function_fields n p = record { type = n; a = p; b = 0; value = 0 }

-- The term that an argument stands for, when u is the tree at its place. The opened function is what a match of kind 13 binds: "a function from
-- Code(p) to the quote of e's body, where each use of the variable that e binds is wrapped in a splice".
unfoldable pub described : Argument → Term → Term
described (Tree at) u = u
described (Quote at ty) u = quoted ty u
described (Opened at ty a b) u = unary function (function_fields ty a) (quoted b (wrapped a u))

-- How many arguments there are.
unfoldable pub count_of : Arguments → ℕ
count_of g = elim g.second [ None ↦ 1 | Some second ↦ 2 ]

-- The argument for the variable of the innermost binder, or for the other one.
unfoldable pub argument_of : Arguments → Bool → Argument
argument_of g inner = elim g.second [ None ↦ g.first | Some second ↦ pick inner g.first second ]

-- The argument stands for t: a tree is at its place, outside of the records from lo on and before hi, which are free for the copy.
pub record StandsFor (rs : List Record) (lo hi : ℕ) (g : Argument) (t : Term) : Type 0 where
  pub tree : Term
  pub there : At rs (place_of g) tree
  pub outside : Outside lo hi (place_of g) (size tree)
  pub is : t ≡ described g tree

-- The arguments stand for ts, one or two: the first for index 0.
pub record StandForAll (rs : List Record) (lo hi : ℕ) (g : Arguments) (ts : List Term) : Type 0 where
  pub count : length ts ≡ count_of g
  pub each : (j : ℕ) (z : Term) → j < count_of g → StandsFor rs lo hi (argument_of g (eqb j 0)) (get_or ts j z)
