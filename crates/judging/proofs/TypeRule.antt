-- The type rule of a match: that of its children, then its pattern.
use Prim.Native.Nat.{ℕ}
use mathlib.Core.Path.{◌≡◌, refl, sym, ap, ap₂, ◌∙◌}
use mathlib.Core.List.{List, [], ◌∷◌, ◌++◌}
use mathlib.Core.Bool.{Bool, ◌&&◌, and_assoc}
use Rattle.std.specs.Prelude.{slice_index}
use Rattle.rules.specs.Terms.{Fields}
use Rattle.rules.specs.Types.{Table, part_a}
use Rattle.rules.specs.Conditions.{met, Rule, holds}
use Rattle.rules.specs.Typing.{Env, typed}
use Rattle.kinds.specs.declared.names.Kind.{Kind}
use Rattle.kinds.specs.declared.names.Kind.TheVariants.{Number, Variable, Function, Application, Fix, Lift, Quote, Splice, MatchNumber, MatchVariable, MatchApplication, MatchLift, MatchFunction, MatchFix}
use Rattle.kinds.specs.Named.{kind_meant}
use Rattle.records.specs.declared.Entry.{Entry}
use Rattle.records.specs.declared.Record.{Record}
use Rattle.records.specs.Places.{IsEntry}
use Rattle.judging.specs.Tests.{fields_meant, Tests, match_children_rule, IsMatch, pattern_of, PatternTest, TypeTest}

-- A kind that is none of the first eight.
pub a_match : (k : Kind) → (k ≡ Number → ⊥) → (k ≡ Variable → ⊥) → (k ≡ Function → ⊥) → (k ≡ Application → ⊥) → (k ≡ Fix → ⊥) → (k ≡ Lift → ⊥)
    → (k ≡ Quote → ⊥) → (k ≡ Splice → ⊥) → IsMatch k
a_match Number n₁ n₂ n₃ n₄ n₅ n₆ n₇ n₈ = absurd (n₁ refl)
a_match Variable n₁ n₂ n₃ n₄ n₅ n₆ n₇ n₈ = absurd (n₂ refl)
a_match Function n₁ n₂ n₃ n₄ n₅ n₆ n₇ n₈ = absurd (n₃ refl)
a_match Application n₁ n₂ n₃ n₄ n₅ n₆ n₇ n₈ = absurd (n₄ refl)
a_match Fix n₁ n₂ n₃ n₄ n₅ n₆ n₇ n₈ = absurd (n₅ refl)
a_match Lift n₁ n₂ n₃ n₄ n₅ n₆ n₇ n₈ = absurd (n₆ refl)
a_match Quote n₁ n₂ n₃ n₄ n₅ n₆ n₇ n₈ = absurd (n₇ refl)
a_match Splice n₁ n₂ n₃ n₄ n₅ n₆ n₇ n₈ = absurd (n₈ refl)
a_match MatchNumber n₁ n₂ n₃ n₄ n₅ n₆ n₇ n₈ = record { form = _; is = refl }
a_match MatchVariable n₁ n₂ n₃ n₄ n₅ n₆ n₇ n₈ = record { form = _; is = refl }
a_match MatchApplication n₁ n₂ n₃ n₄ n₅ n₆ n₇ n₈ = record { form = _; is = refl }
a_match MatchLift n₁ n₂ n₃ n₄ n₅ n₆ n₇ n₈ = record { form = _; is = refl }
a_match MatchFunction n₁ n₂ n₃ n₄ n₅ n₆ n₇ n₈ = record { form = _; is = refl }
a_match MatchFix n₁ n₂ n₃ n₄ n₅ n₆ n₇ n₈ = record { form = _; is = refl }

-- One rule after another.
holds_both : (r s : Rule) → holds r && holds s ≡ holds (r ++ s)
holds_both [] s = refl
holds_both (c ∷ r) s = and_assoc (met c) (holds r) (holds s) ∙ ap (λ b. met c && b) (holds_both r s)

typed_match : (types : Table) (Γ : Env) (f : Fields) (x y z : ℕ) (kind : Kind) → IsMatch kind
    → typed types Γ (kind_meant kind) f x y z ≡ match_children_rule types f.type x y z ++ pattern_of types Γ (kind_meant kind) f (part_a types x)
typed_match types Γ f x y z kind m = rw m.is

module _ (types : Table) (ty : ℕ) (kind : Kind) (r : Record) (cs : List ℕ) (m : IsMatch kind) where
  abbrev x : ℕ
  x = slice_index cs 0

  abbrev y : ℕ
  y = slice_index cs 1

  abbrev z : ℕ
  z = slice_index cs 2

  pub match_type : (e : Entry) (s t : Bool) → IsEntry types x e → Tests (match_children_rule types r.ty x y z) s → PatternTest types ty kind r e.a t → TypeTest types ty kind r cs (s && t)
  match_type e s t i hs ht = record {
    is = λ Γ g.
        let p = pattern_of types Γ (kind_meant kind) (fields_meant r) in
        let u : t ≡ holds (p (part_a types x)) = ht.is Γ g ∙ ap (λ C. holds (p C)) (ap (λ v. v.a) i.is) in
        ap₂ ◌&&◌ hs.is u ∙ holds_both (match_children_rule types r.ty x y z) (p (part_a types x)) ∙ sym (ap holds (typed_match types Γ (fields_meant r) x y z kind m));
  }
