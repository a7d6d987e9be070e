-- Where the next step of a term is made.
use Rattle.std.specs.Prelude.{ℕ, ◌+◌, ◌≤◌, ◌≡◌, List, Bool, Option, None, Some, ◌&&◌, not}
use Rattle.rules.specs.Kinds.{splice, unary₁, binary₂, ternary₃}
use Rattle.rules.specs.Lists.{pick}
use Rattle.rules.specs.Terms.{Fields, Term, leaf, unary, binary, ternary, root_kind, size}
use Rattle.rules.specs.Format.{Record}
use Rattle.rules.specs.Typing.{level₁}
use Rattle.rules.specs.Values.{plain_kind, plain}
use Rattle.rules.specs.Contractions.{contracts}
use Rattle.rules.specs.Steps.{steps_child}
use Rattle.kinds.specs.declared.names.Kind.{Kind}
use Rattle.kinds.specs.Named.{kind_meant}
use Rattle.terms.specs.Preorder.{At, HasTree}
use Rattle.redexes.specs.declared.Found.{Found}
use Rattle.redexes.specs.declared.Found.TheVariants.{Done, Redex}

-- What a first search finds to rewrite, or else what the second finds.
unfoldable pub or_else : Found → Found → Found
or_else (Done e) y = y
or_else (Redex p) y = Redex p

-- The same, where the first search is made only if b holds.
unfoldable pub searched : Bool → Found → Found → Found
searched b x y = pick b (or_else x y) y

-- What a first search finds to rewrite, or else the record that is rewritten then, or else nothing.
unfoldable pub or_here : Found → Option ℕ → Found
or_here (Done e) None = Done e
or_here (Done e) (Some i) = Redex i
or_here (Redex p) here = Redex p

-- The root of the tree t at i, when the children that it steps are done.
abbrev pub root_found : ℕ → Term → ℕ → Found
root_found l t i = pick (contracts l (root_kind t)) (Redex i) (Done (i + size t))

-- What is found in the tree t that stands at i, at level l: what is found in the children that its root steps, from the first on; "then:" the
-- root. "At level 0, application steps its first child until that is a value, then its second; fix, lift and matches step the first child until
-- it is a value. Quote steps its child at level 1 until plain. At level 1, function, application and fix step the first child that isn't plain;
-- splice steps its child at level 0 until that is a value."
unfoldable pub find : ℕ → Term → ℕ → Found
find l (leaf k f) i = root_found l (leaf k f) i
find l (unary k f t) i = searched (steps_child l (unary₁ k) 0) (find (level₁ k l) t (i + 1)) (root_found l (unary k f t) i)
find l (binary k f t u) i =
    searched (steps_child l (binary₂ k) 0) (find l t (i + 1))
    (searched (steps_child l (binary₂ k) 1) (find l u (i + 1 + size t)) (root_found l (binary k f t u) i))
find l (ternary k f t s e) i =
    searched (steps_child l (ternary₃ k) 0) (find l t (i + 1))
    (searched (steps_child l (ternary₃ k) 1) (find l s (i + 1 + size t))
    (searched (steps_child l (ternary₃ k) 2) (find l e (i + 1 + size t + size s)) (root_found l (ternary k f t s e) i)))

-- A tree stands at i, and the level is 0 or 1.
pub record CanFind (rs : List Record) (i l : ℕ) : Type 0 where
  pub has : HasTree rs i
  pub low : l ≤ 1

-- r is what is found in the tree at i, at level l.
pub record Finds (l : ℕ) (rs : List Record) (i : ℕ) (r : Found) : Type 0 where
  pub is : (t : Term) → At rs i t → r ≡ find l t i

-- b says whether the kind k is plain and the tree at i isn't.
pub record SpliceBelow (rs : List Record) (i : ℕ) (k : Kind) (b : Bool) : Type 0 where
  pub is : (t : Term) → At rs i t → b ≡ not (plain t) && plain_kind (kind_meant k)

-- Of the tree t at i: a splice stands at p, and what is found at level 1 in t is what is found in it.
pub record SpliceAt (rs : List Record) (i p : ℕ) (t : Term) : Type 0 where
  pub fields : Fields
  pub code : Term
  pub there : At rs p (unary splice fields code)
  pub inside : size (unary splice fields code) ≤ size t
  pub same : find 1 t i ≡ find 1 (unary splice fields code) p

-- The first splice at level 1 in the tree at i stands at p; or there is none, and nothing is found at that level.
pub data FindsSplice (rs : List Record) (i : ℕ) : Found → Type 0 where
  splice_there : (p : ℕ) → ((t : Term) → At rs i t → SpliceAt rs i p t) → FindsSplice rs i (Redex p)
  no_splice : (e : ℕ) → ((t : Term) → At rs i t → find 1 t i ≡ Done e) → FindsSplice rs i (Done e)
