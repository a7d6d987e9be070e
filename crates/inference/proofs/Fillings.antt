-- Fillings of a whole term: inference gives one where there is one, and all have the same types in full.
use Prim.Native.Nat.{ℕ, ◌≤◌}
use native.Mathlib.Omega.{arith}
use mathlib.Core.List.{[]}
use mathlib.Core.Path.{◌≡◌, refl, ap, sym, subst, ◌∙◌}
use lib.ListN.{length}
use Rattle.rules.specs.Lists.{All}
use Rattle.rules.specs.Terms.{Term}
use Rattle.rules.specs.Types.{Table}
use Rattle.inference.specs.Inference.{cleared, Formed, Inference, faulty, filled, inferred}
use Rattle.inference.specs.FullTypes.{Whole, full_types}
use Rattle.inference.specs.Infer.{Filling}
use Rattle.rules.proofs.Meaning.{unlike}
use Rattle.rules.proofs.Written.{GoodTable}
use Rattle.inference.proofs.Outcomes.{Fills, Reaches}
use Rattle.inference.proofs.Growing.{begins_itself, longer}
use Rattle.inference.proofs.Renaming.{over, over_low, over_into}
use Rattle.inference.proofs.Sound.{Sound, sound}
use Rattle.inference.proofs.Complete.{Reached, complete}
use Rattle.inference.proofs.InFull.{types_same, types_whole}

reaches_two : (P Q : Table → Term → Type 0) (o : Inference) → Reaches P o → Reaches Q o → (A : Table) × (t : Term) × (P A t × Q A t)
reaches_two P Q (faulty r) h k = absurd h
reaches_two P Q (filled A t) h k = (A, t, (h, k))

-- A filling's table is good.
pub filling_table : (types : Table) → GoodTable types → (given : Term) (B : Table) (u : Term) → Filling types given B u → GoodTable B
filling_table types good given B u f = record { some = omega (arith, good.some, longer f.begins); few = f.few; entries = f.entries }

-- A given table and term that keep rules 6 and 7.
module _ (types : Table) (good : GoodTable types) (given : Term) (form : Formed types given) where
  -- What inference gives is a filling.
  pub gives_filling : Fills (Filling types (cleared given)) (inferred types [] 0 given)
  gives_filling = go (inferred types [] 0 given) (sound types given [] 0 form tt types good (begins_itself types))
    where
      go : (o : Inference) → Fills (Sound types types [] 0 given) o → Fills (Filling types (cleared given)) o
      go (faulty r) h = tt
      go (filled A t) h = record { begins = h.begins; few = h.table.few; entries = h.table.entries; typed = h.typed tt A (begins_itself A); back = h.back }

  -- Where there is a filling, inference gives one, of which it is a renumbering.
  module _ (B : Table) (u : Term) (fills : Filling types given B u) where
    pub filling_given : Reaches (Reached types B (unlike B fills.entries) fills.few types (over types B) u) (inferred types [] 0 given)
    filling_given = subst (λ t. Reaches (Reached types B (unlike B fills.entries) fills.few types (over types B) u) (inferred types [] 0 t)) fills.back
        (complete types B (unlike B fills.entries) fills.few u [] 0 (subst (Formed types) (sym fills.back) form) tt fills.typed types (over types B) record {
          table = good;
          begins = begins_itself types;
          into = over_into fills.begins good.entries;
          fixing = over_low fills.begins;
        })

  -- Any two fillings give each record the same type in full.
  pub same_in_full : (B C : Table) (u v : Term) → Filling types given B u → Filling types given C v → (depth : ℕ) → full_types depth B u ≡ full_types depth C v
  same_in_full B C u v f g depth =
      let (A, t, (r, s)) = reaches_two _ _ (inferred types [] 0 given) (filling_given B u f) (filling_given C v g) in
      ap (full_types depth B) (sym (r.like r.goes.to (λ i h. refl))) ∙ types_same A B r.goes.to r.goes.into depth t
      ∙ sym (ap (full_types depth C) (sym (s.like s.goes.to (λ i h. refl))) ∙ types_same A C s.goes.to s.goes.into depth t)

  -- A filling's types are so written out in full, to a depth of its table's length.
  pub filling_whole : (B : Table) (u : Term) → Filling types given B u → (depth : ℕ) → length B ≤ depth → All Whole (full_types depth B u)
  filling_whole B u f depth deep = types_whole B (filling_table types good given B u f) depth deep u [] 0 f.typed
