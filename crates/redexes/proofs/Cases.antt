-- What the search at level 0 finds in a stored tree, by the number of children that the tree's root steps.
use Prim.Native.Nat.{ℕ, ◌+◌, ◌<◌}
use native.Mathlib.Omega.{arith}
use mathlib.Core.Path.{◌≡◌, refl, sym, ap, ◌∙◌}
use mathlib.Core.Bool.{Bool, true, false, not}
use mathlib.Core.List.{List, ◌∷◌}
use lib.Dec.{T}
use Rattle.std.specs.Prelude.{Option, None, Some}
use Rattle.rules.specs.Lists.{pick}
use Rattle.rules.specs.Kinds.{function, fix, lift, quote, splice, application, match}
use Rattle.rules.specs.Terms.{Term, leaf, unary, binary, ternary, root_kind, size}
use Rattle.rules.specs.Contractions.{contracts}
use Rattle.rules.specs.Format.{Record}
use Rattle.rules.specs.Typing.{first_level}
use Rattle.rules.specs.Steps.{stepping}
use Rattle.kinds.specs.declared.names.Kind.{Kind}
use Rattle.kinds.specs.Named.{kind_meant}
use Rattle.terms.specs.Children.{kids}
use Rattle.terms.specs.Preorder.{At}
use Rattle.terms.specs.Measuring.{KindIs}
use Rattle.terms.proofs.Trees.{kind_at, kids_there, first_tree, later_trees}
use Rattle.redexes.specs.declared.Found.{Found}
use Rattle.redexes.specs.declared.Found.TheVariants.{Done, Redex}
use Rattle.redexes.specs.Finding.{or_else, searched, or_here, find}
use Rattle.redexes.proofs.Ends.{EndsAt, ends}

-- The root at i, where it is rewritten.
abbrev here_if : Bool → ℕ → Option ℕ
here_if b i = pick b (Some i) None

-- The tree t at i, where the root's first child is at level m and b tells whether the root is rewritten: by the number of children that the root
-- steps.
pub data Case (rs : List Record) (i : ℕ) (t : Term) (m : ℕ) (b : Bool) : ℕ → Type 0 where
  none : find 0 t i ≡ Done (i + size t) → Case rs i t m b 0
  one : (u : Term) → At rs (i + 1) u → size u < size t → find 0 t i ≡ or_here (find m u (i + 1)) (here_if b i) → Case rs i t m b 1
  two : (u v : Term) → At rs (i + 1) u → At rs (i + 1 + size u) v → size u + size v < size t → find 0 t i ≡ or_else (find 0 u (i + 1)) (or_here (find 0 v (i + 1 + size u)) (here_if b i)) → Case rs i t m b 2

-- The root, after a search that ends where the tree does.
pub root_after : (x : Found) (b : Bool) (i n : ℕ) → (T (not b) → EndsAt n x) → or_else x (pick b (Redex i) (Done n)) ≡ or_here x (here_if b i)
unfolding or_else or_here
root_after (Done e) true i n h = refl
root_after (Done e) false i n h = ap Done (sym (h tt))
root_after (Redex p) b i n h = refl

-- A root that is rewritten, after any search; and a root that isn't, after the search of its only child.
rewritten_after : (x : Found) (i : ℕ) → or_else x (Redex i) ≡ or_here x (Some i)
rewritten_after x i = root_after x true i i (λ z. absurd z)

unwritten_after : (m : ℕ) (t : Term) (i : ℕ) → or_else (find m t (i + 1)) (Done (i + (1 + size t))) ≡ or_here (find m t (i + 1)) None
unwritten_after m t i = root_after (find m t (i + 1)) false i (i + (1 + size t)) (λ _. let e : i + (1 + size t) ≡ i + 1 + size t = omega arith in rw e (ends m t (i + 1)))

-- The children that a root may step.
module _ (rs : List Record) (i : ℕ) (t u : Term) where
  pub first_there : (us : List Term) → kids t ≡ u ∷ us → At rs i t → At rs (i + 1) u
  first_there us e h = first_tree rs (i + 1) u us (rw e at (kids_there rs i t h))

  second_there : (v : Term) (us : List Term) → kids t ≡ u ∷ v ∷ us → At rs i t → At rs (i + 1 + size u) v
  second_there v us e h = first_tree rs (i + 1 + size u) v us (later_trees rs (i + 1) u (v ∷ us) (rw e at (kids_there rs i t h)))

case : (rs : List Record) (i : ℕ) (t : Term) → At rs i t → Case rs i t (first_level (root_kind t) 0) (contracts 0 (root_kind t)) (stepping 0 (root_kind t))
unfolding find searched kids size
case rs i (leaf k f) h = none refl
case rs i (unary function f t) h = none refl
case rs i (unary fix f t) h = one t (first_there rs i _ t _ refl h) (omega arith) (rewritten_after (find 0 t (i + 1)) i)
case rs i (unary lift f t) h = one t (first_there rs i _ t _ refl h) (omega arith) (rewritten_after (find 0 t (i + 1)) i)
case rs i (unary quote f t) h = one t (first_there rs i _ t _ refl h) (omega arith) (unwritten_after 1 t i)
case rs i (unary splice f t) h = none refl
case rs i (binary application f t u) h = two t u (first_there rs i _ t _ refl h) (second_there rs i _ t u _ refl h) (omega arith) (ap (or_else (find 0 t (i + 1))) (rewritten_after (find 0 u (i + 1 + size t)) i))
case rs i (ternary (match k) f t s e) h = one t (first_there rs i _ t _ refl h) (omega arith) (rewritten_after (find 0 t (i + 1)) i)

-- The kind that was read is the root's.
module _ (rs : List Record) (i : ℕ) (k : Kind) (a : KindIs rs i k) (t : Term) (h : At rs i t) where
  pub kind_seen : kind_meant k ≡ root_kind t
  kind_seen = a.is ∙ kind_at rs i t h

  pub seen : Case rs i t (first_level (kind_meant k) 0) (contracts 0 (kind_meant k)) (stepping 0 (kind_meant k))
  seen = rw kind_seen (case rs i t h)
