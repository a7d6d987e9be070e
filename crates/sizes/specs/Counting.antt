-- What is counted before anything is copied: the size that a tree will have when variables of it have given way, and that of what an argument
-- stands for.
use Rattle.std.specs.Prelude.{ℕ, ◌+◌, ◌*◌, ◌<◌, ◌≤◌, List, Bool, false, ◌≡◌, T, eqb, leb}
use Rattle.rules.specs.Lists.{pick}
use Rattle.rules.specs.Terms.{Term, size}
use Rattle.rules.specs.Indices.{replaced, names_removed, summed}
use Rattle.rules.specs.Format.{Record}
use Rattle.terms.specs.Preorder.{At}
use Rattle.substitution.specs.declared.arguments.Argument.{Argument}
use Rattle.substitution.specs.declared.arguments.Arguments.{Arguments}
use Rattle.substitution.specs.Arguments.{count_of, argument_of, StandsFor, StandForAll}

-- The size of a tree once each variable of the innermost of the m binders next to d has given way to `first` records, and one of another to `second`.
abbrev pub weight : ℕ → ℕ → ℕ → ℕ → ℕ → ℕ
weight m first second d i = pick (names_removed m d i) (pick (eqb i d) first second) 1

unfoldable pub size_after : ℕ → ℕ → ℕ → ℕ → Term → ℕ
size_after m first second d t = summed (weight m first second) 1 d t

-- A tree stands at src, and the sizes are small, so that no sum gets too large.
pub record CanCount (rs : List Record) (src d first second : ℕ) : Type 0 where
  pub tree : Term
  pub there : At rs src tree
  pub deep : d + 2 * size tree < 65536
  pub first_small : first ≤ 65535
  pub second_small : second ≤ 65535

pub record CountsSize (rs : List Record) (src d m first second n : ℕ) : Type 0 where
  pub is : (t : Term) → At rs src t → n ≡ size_after m first second d t

-- The argument stands for some term, and its tree is small.
pub record HasArgument (rs : List Record) (g : Argument) : Type 0 where
  pub lo : ℕ
  pub hi : ℕ
  pub term : Term
  pub stands : StandsFor rs lo hi g term
  pub small : size stands.tree < 32767

-- n is not below the size of the term that the argument stands for, and no more than a copy can have. Where it is asked for exactly, n is that
-- size.
pub record Measures (rs : List Record) (g : Argument) (exactly : Bool) (n : ℕ) : Type 0 where
  pub most : (lo hi : ℕ) (t : Term) → StandsFor rs lo hi g t → size t ≤ n
  pub is : T exactly → (lo hi : ℕ) (t : Term) → StandsFor rs lo hi g t → n ≡ size t
  pub small : n ≤ 65535

-- A tree stands at `at`, and the arguments stand for terms; all trees are small.
pub record CanFit (rs : List Record) (at : ℕ) (g : Arguments) : Type 0 where
  pub lo : ℕ
  pub hi : ℕ
  pub tree : Term
  pub terms : List Term
  pub there : At rs at tree
  pub stand : StandForAll rs lo hi g terms
  pub few : size tree < 32767
  pub small : (j : ℕ) (z : Term) (l : j < count_of g) → size (stand.each j z l).tree < 32767

-- n measures so what stands for index 1, or is 0 where one variable is replaced.
pub record MeasuresSecond (rs : List Record) (g : Arguments) (exactly : Bool) (n : ℕ) : Type 0 where
  pub there : 1 < count_of g → Measures rs (argument_of g false) exactly n
  pub none : count_of g ≤ 1 → n ≡ 0

-- b tells whether the tree at `at`, with its variables replaced, has at most `room` records.
pub record TellsRoom (rs : List Record) (at : ℕ) (g : Arguments) (room : ℕ) (b : Bool) : Type 0 where
  pub is : (lo hi : ℕ) (t : Term) (ts : List Term) → At rs at t → StandForAll rs lo hi g ts → b ≡ leb (size (replaced ts t)) room

-- Where b is true, it has.
pub record TellsSurely (rs : List Record) (at : ℕ) (g : Arguments) (room : ℕ) (b : Bool) : Type 0 where
  pub fits : (lo hi : ℕ) (t : Term) (ts : List Term) → At rs at t → StandForAll rs lo hi g ts → T b → size (replaced ts t) ≤ room
