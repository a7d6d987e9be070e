-- What a plan says: what a redex becomes, by the places of trees. The records from lo on and before hi are free, and no tree is read there.
use Rattle.std.specs.Prelude.{ℕ, ◌+◌, ◌≤◌, List, [], ◌∷◌, ◌⊎◌, None, length}
use Rattle.rules.specs.Terms.{Term, size}
use Rattle.rules.specs.Indices.{replaced, gave_way}
use Rattle.rules.specs.Format.{Record}
use Rattle.terms.specs.Preorder.{At}
use Rattle.terms.specs.Measuring.{Low}
use Rattle.substitution.specs.declared.arguments.Argument.{Argument}
use Rattle.substitution.specs.declared.arguments.Arguments.{Arguments}
use Rattle.copies.specs.Copying.{Outside}
use Rattle.substitution.specs.Arguments.{StandsFor}
use Rattle.substitution.specs.Replacing.{Given}
use Rattle.contraction.specs.declared.plans.Plan.{Plan}
use Rattle.contraction.specs.declared.plans.Plan.TheVariants.{Tree, Body, Made}

-- The argument stands for t, and its tree is low. 4,096 is the bound of each part of a typed term, so that the measures of every copy fit.
pub record Stands (rs : List Record) (lo hi : ℕ) (g : Argument) (t : Term) : Type 0 where
  pub stands : StandsFor rs lo hi g t
  pub low : Low 4096 stands.tree

-- The arguments stand for ts. A low tree's free bound and four for each of its records are at most twice 4,096.
abbrev pub AllStand : List Record → ℕ → ℕ → Arguments → List Term → Type 0
AllStand rs lo hi g ts = Given rs lo hi g ts 8192

-- One argument, for one variable.
abbrev pub only_one : Argument → Arguments
only_one g = record { first = g; second = None }

-- A tree of n records at i is before lo, or from hi on and before `end`.
abbrev pub Clear : ℕ → ℕ → ℕ → ℕ → ℕ → Type 0
Clear lo hi end i n = (i + n ≤ lo) ⊎ ((hi ≤ i) × (i + n ≤ end))

-- The plan says that the redex becomes u, and that n variables give way.
pub data Planned (rs : List Record) (lo hi end : ℕ) : Plan → ℕ → Term → Type 0 where
  itself : (at n : ℕ) (u : Term) → At rs at u → Clear lo hi end at (size u) → Planned rs lo hi end (Tree at n) n u
  from_body : (at : ℕ) (g : Arguments) (body : Term) (ts : List Term) → At rs at body → Outside lo hi at (size body) → Low 4096 body → AllStand rs lo hi g ts
      → Planned rs lo hi end (Body at g) (gave_way (length ts) 0 body) (replaced ts body)
  anew : (g : Argument) (u : Term) → Stands rs lo hi g u → Planned rs lo hi end (Made g) 0 u

-- The plan is right of the tree at `at`, with its variables replaced by what the arguments stand for.
pub record PlansBody (rs : List Record) (at : ℕ) (g : Arguments) (plan : Plan) : Type 0 where
  pub is : (lo hi end : ℕ) (body : Term) (ts : List Term) → At rs at body → Clear lo hi end at (size body) → Low 4096 body → AllStand rs lo hi g ts
      → Planned rs lo hi end plan (gave_way (length ts) 0 body) (replaced ts body)

-- The same where one variable gives way to the tree at `arg`, which stands before lo.
pub record PlansTree (rs : List Record) (at arg : ℕ) (plan : Plan) : Type 0 where
  pub is : (lo hi end : ℕ) (body t : Term) → At rs at body → Clear lo hi end at (size body) → Low 4096 body → At rs arg t → arg + size t ≤ lo → Low 4096 t
      → Planned rs lo hi end plan (gave_way 1 0 body) (replaced (t ∷ []) body)
