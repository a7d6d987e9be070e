-- Records that meet the rules of an edition, whose kinds are known, make trees by their links, whether types are given or omitted.
use native.Mathlib.Omega.{arith}
use mathlib.Core.List.{List}
use Rattle.rules.specs.Editions.{Edition, HasKnownKinds}
use Rattle.rules.specs.Types.{Table}
use Rattle.rules.specs.FieldUses.{TypeFields}
use Rattle.rules.specs.Format.{Record}
use Rattle.rules.specs.Meets.{MeetsForm}
use Rattle.terms.specs.Loads.{WellLinked}

pub form_linked : (fields : TypeFields) (edition : Edition) → HasKnownKinds edition → (types : Table) (program : List Record) → MeetsForm fields edition types program
    → WellLinked program
form_linked fields edition known types program m = record {
  kinds = λ n p q. let k = (m.fielded n p (omega arith)).0 in omega arith;
  links = record { first = λ n p q. (m.linked n p (omega arith)).0; next = λ n p q. (m.linked n p (omega arith)).1.0 };
  chained = λ n p q. m.chained n p (omega arith);
}
