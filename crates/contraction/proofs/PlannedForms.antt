-- What a plan is right of, by its form.
use Prim.Native.Nat.{ℕ}
use mathlib.Core.List.{List}
use mathlib.Core.Path.{◌≡◌, refl}
use lib.ListN.{length}
use Rattle.rules.specs.Terms.{Term, size}
use Rattle.rules.specs.Indices.{replaced, gave_way}
use Rattle.rules.specs.Format.{Record}
use Rattle.terms.specs.Preorder.{At}
use Rattle.terms.specs.Measuring.{Low}
use Rattle.substitution.specs.declared.arguments.Argument.{Argument}
use Rattle.substitution.specs.declared.arguments.Arguments.{Arguments}
use Rattle.copies.specs.Copying.{Outside}
use Rattle.contraction.specs.declared.plans.Plan.{Plan}
use Rattle.contraction.specs.declared.plans.Plan.TheVariants.{Body, Made}
use Rattle.contraction.specs.Plans.{Stands, AllStand, Planned, from_body, anew}

module _ (rs : List Record) (lo hi end n : ℕ) (u : Term) where
  pub record FromBody (at : ℕ) (g : Arguments) : Type 0 where
    pub body : Term
    pub terms : List Term
    pub there : At rs at body
    pub outside : Outside lo hi at (size body)
    pub low : Low 4096 body
    pub given : AllStand rs lo hi g terms
    pub counted : gave_way (length terms) 0 body ≡ n
    pub is : replaced terms body ≡ u

  pub record Anew (g : Argument) : Type 0 where
    pub given : Stands rs lo hi g u
    pub none : 0 ≡ n

module _ {rs : List Record} {lo hi end : ℕ} where
  by_body : {at n : ℕ} {g : Arguments} {u : Term} → Planned rs lo hi end (Body at g) n u → FromBody rs lo hi end n u at g
  by_body (from_body at g body ts there outside low given) = record { body = body; terms = ts; there = there; outside = outside; low = low; given = given; counted = refl; is = refl }

  by_made : {n : ℕ} {g : Argument} {u : Term} → Planned rs lo hi end (Made g) n u → Anew rs lo hi end n u g
  by_made (anew g u given) = record { given = given; none = refl }

  pub planned_body : {plan : Plan} {n : ℕ} {u : Term} (at : ℕ) (g : Arguments) → plan ≡ Body at g → Planned rs lo hi end plan n u → FromBody rs lo hi end n u at g
  planned_body at g e h = by_body (rw e at h)

  pub planned_anew : {plan : Plan} {n : ℕ} {u : Term} (g : Argument) → plan ≡ Made g → Planned rs lo hi end plan n u → Anew rs lo hi end n u g
  planned_anew g e h = by_made (rw e at h)
