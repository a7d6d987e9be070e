-- `fits`: a law for each thing that its body asks. `measuring` for search.
use Prim.Native.Nat.{ℕ}
use native.Mathlib.Omega.{arith}
use mathlib.Core.Bool.{Bool, true}
use mathlib.Core.List.{List}
use mathlib.Core.Path.{◌≡◌, ap, ◌∙◌}
use lib.Dec.{leb}
use Rattle.rules.specs.Terms.{Term, size}
use Rattle.rules.specs.Format.{Record}
use Rattle.substitution.specs.declared.arguments.Argument.{Argument}
use Rattle.substitution.specs.declared.arguments.Arguments.{Arguments}
use Rattle.sizes.specs.Counting.{HasArgument, Measures, CanFit, TellsRoom}
use Rattle.contraction.specs.declared.plans.Plan.{Plan}
use Rattle.contraction.specs.declared.plans.Plan.TheVariants.{Body, Made}
use Rattle.contraction.specs.Plans.{Planned}
use Rattle.contraction.specs.Making.{TellsFits}
use Rattle.contraction.proofs.PlannedForms.{planned_body, planned_anew}

module _ (rs : List Record) (plan : Plan) (room : ℕ) where
  module _ (at : ℕ) (g : Arguments) (e : plan ≡ Body at g) where
    pub body_asks : (lo hi end n : ℕ) (u : Term) → Planned rs lo hi end plan n u → CanFit rs at g
    body_asks lo hi end n u h = let b = planned_body at g e h in record {
      lo = lo;
      hi = hi;
      tree = b.body;
      terms = b.terms;
      there = b.there;
      stand = b.given.stand;
      few = omega (arith, b.low);
      small = λ j z l. omega (arith, b.given.reach j z l);
    }

    pub body_fits : (b : Bool) → TellsRoom rs at g room b → TellsFits rs plan room b
    body_fits b k = record {
      is = λ lo hi end n u h. let v = planned_body at g e h in k.is lo hi v.body v.terms v.there v.given.stand ∙ ap (λ t. leb (size t) room) v.is;
    }

  module _ (g : Argument) (e : plan ≡ Made g) where
    pub anew_asks : (lo hi end n : ℕ) (u : Term) → Planned rs lo hi end plan n u → HasArgument rs g
    anew_asks lo hi end n u h = let v = (planned_anew g e h).given in record { lo = lo; hi = hi; term = u; stands = v.stands; small = omega (arith, v.low) }

    pub anew_fits : (m : ℕ) → Measures rs g true m → TellsFits rs plan room (leb m room)
    anew_fits m k = record { is = λ lo hi end n u h. ap (λ x. leb x room) (k.is tt lo hi u (planned_anew g e h).given.stands) }

pub ruleset measuring = (body_asks, body_fits, anew_asks, anew_fits)
