-- Fillings of a whole term: each is the given term but for the types of its records, and any two are the same term in full.
use mathlib.Core.List.{[]}
use mathlib.Core.Path.{sym, subst}
use Rattle.rules.specs.Terms.{Term}
use Rattle.rules.specs.Types.{Table}
use Rattle.rules.specs.FieldUses.{omitted}
use Rattle.inference.specs.Inference.{Formed}
use Rattle.inference.specs.Infer.{Filling}
use Rattle.rules.proofs.Written.{GoodTable}
use Rattle.order.specs.Alike.{Alike, SameFields, SameTerm}
use Rattle.order.proofs.SameFields.{same_turned, same_joined}
use Rattle.order.proofs.Forced.{types_forced}
use Rattle.order.proofs.SameTypes.{cleared_same}

-- A given table and term that keep rules 6 and 7.
module _ (types : Table) (good : GoodTable types) (given : Term) (form : Formed types given) where
  -- A filling is the given term but for the types of its records.
  pub filling_same : (B : Table) (u : Term) → Filling types given B u → Alike (SameFields omitted types B) given u
  filling_same B u f = subst (λ t. Alike (SameFields omitted types B) t u) f.back (cleared_same types B good.entries f.begins u (subst (Formed types) (sym f.back) form))

  -- Any two fillings give each record the same type in full.
  pub same_in_full : (B C : Table) (u v : Term) → Filling types given B u → Filling types given C v → SameTerm B C u v
  same_in_full B C u v f g = types_forced B C f.entries g.entries
      (same_joined B types C omitted (same_turned omitted types B (filling_same B u f)) (filling_same C v g)) [] [] 0 tt f.typed g.typed
