-- How the search at level 0 goes down a tree: from a root that is rewritten to the child that it steps last.
use Rattle.std.specs.Prelude.{ℕ, ◌<◌, ◌≡◌, Some, true, false, List}
use Rattle.rules.specs.Terms.{Term, size}
use Rattle.rules.specs.Contractions.{contracts}
use Rattle.rules.specs.Format.{Record}
use Rattle.kinds.specs.declared.names.Kind.{Kind}
use Rattle.kinds.specs.Named.{kind_meant}
use Rattle.terms.specs.Preorder.{At}
use Rattle.redexes.specs.declared.Found.{Found}
use Rattle.redexes.specs.declared.Found.TheVariants.{Done, Redex}
use Rattle.terms.specs.Measuring.{KindIs}
use Rattle.redexes.specs.Finding.{or_here, find, Finds}

-- A tree stands at i whose root, of kind k, isn't rewritten at level 0.
pub record HasUnwritten (rs : List Record) (i : ℕ) (k : Kind) : Type 0 where
  pub tree : Term
  pub there : At rs i tree
  pub kind : KindIs rs i k
  pub stays : contracts 0 (kind_meant k) ≡ false

-- A tree stands at i whose root, of kind k, is rewritten once the children that it steps are done.
pub record HasRewritten (rs : List Record) (i : ℕ) (k : Kind) : Type 0 where
  pub tree : Term
  pub there : At rs i tree
  pub kind : KindIs rs i k
  pub rewritten : contracts 0 (kind_meant k) ≡ true

-- The root of t, at i, steps the child at e last: what is found in t is what is found in that child, or else the root.
pub record LastAt (rs : List Record) (i e : ℕ) (t : Term) : Type 0 where
  pub child : Term
  pub there : At rs e child
  pub fewer : size child < size t
  pub same : find 0 t i ≡ or_here (find 0 child e) (Some i)

-- What is found before the child that is stepped last, or where that child stands.
pub data LastStepped (rs : List Record) (i : ℕ) : Found → Type 0 where
  before : (p : ℕ) → Finds 0 rs i (Redex p) → LastStepped rs i (Redex p)
  last : (e : ℕ) → ((t : Term) → At rs i t → LastAt rs i e t) → LastStepped rs i (Done e)
