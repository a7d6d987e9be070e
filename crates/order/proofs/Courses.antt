-- Runs over two tables: the same terms but for the numbers of types have the same course, so that equal bytes are written.
use Prim.Native.Nat.{ℕ, zero, suc}
use mathlib.Core.Bool.{Bool, true, false, not}
use mathlib.Core.List.{[], ◌∷◌}
use mathlib.Core.Option.{Option, none, some}
use mathlib.Core.Path.{◌≡◌, refl, ap, sym, ◌∙◌, subst}
use lib.Dec.{T, ltb}
use Rattle.rules.specs.Terms.{Term, size}
use Rattle.rules.specs.Types.{Table}
use Rattle.rules.specs.FieldUses.{given}
use Rattle.rules.specs.Typing.{Env, Typed}
use Rattle.rules.specs.Values.{value}
use Rattle.rules.specs.Steps.{Event}
use Rattle.rules.specs.Next.{Next, next}
use Rattle.rules.specs.Format.{most_records}
use Rattle.order.specs.FullTypes.{GoodEntries}
use Rattle.order.specs.Alike.{SameTerm}
use Rattle.rules.specs.Run.{Course, after_step, course}
use Rattle.rules.proofs.Tests.{never}
use Rattle.rules.proofs.Agree.{agree}
use Rattle.rules.proofs.Meaning.{unlike}
use Rattle.rules.proofs.Preserved.{preserved}
use Rattle.order.proofs.SameFields.{same_turned}
use Rattle.order.proofs.Retyped.{SameEnv, retyped}
use Rattle.order.proofs.Alike.{size_alike, value_alike}
use Rattle.order.proofs.Matches.{Both}
use Rattle.order.proofs.Steps.{step_same}

-- Two tests and two options that agree.
tested₂ : {A B : Type 0} (P : A → B → Type 0) (b c : Bool) (x y : A) (x' y' : B) → b ≡ c → (T b → P x x') → (T (not b) → P y y') → P (elim b [ true ↦ x | false ↦ y ]) (elim c [ true ↦ x' | false ↦ y' ])
tested₂ P true c x y x' y' e h k = rw (← e) (h tt)
tested₂ P false c x y x' y' e h k = rw (← e) (k tt)

option₂ : {A B C D : Type 0} (P : C → D → Type 0) (Q : A → B → Type 0) (o : Option A) (q : Option B) (x : C) (y : D) (g : A → C) (k : B → D) → Both Q o q → P x y
    → ((u : A) (w : B) → o ≡ some u → q ≡ some w → Q u w → P (g u) (k w)) → P (elim o [ none ↦ x | some u ↦ g u ]) (elim q [ none ↦ y | some w ↦ k w ])
option₂ P Q none none x y g k b h i = h
option₂ P Q none (some w) x y g k b h i = absurd b
option₂ P Q (some u) none x y g k b h i = absurd b
option₂ P Q (some u) (some w) x y g k b h i = i u w refl refl b

-- The same next term with the same event, and the same course, each over its own table.
pub record SameNext (types types' : Table) (m w : Next) : Type 0 where
  pub event : m.event ≡ w.event
  pub term : SameTerm types types' m.term w.term

pub record SameCourse (types types' : Table) (c d : Course) : Type 0 where
  pub ending : c.ending ≡ d.ending
  pub trace : c.trace ≡ d.trace
  pub last : SameTerm types types' c.last d.last

module _ (types types' : Table) (good : GoodEntries types) (good' : GoodEntries types') where
  pub next_same : (l : ℕ) {t t' : Term} (Γ Δ : Env) → SameEnv types types' Γ Δ → SameTerm types types' t t' → Typed types Γ l t → Both (SameNext types types') (next types l t) (next types' l t')
  next_same l {t} {t'} Γ Δ v h i = go (next types l t) (next types' l t') refl refl
    where
      go : (o q : Option Next) → next types l t ≡ o → next types' l t' ≡ q → Both (SameNext types types') o q
      go none none d e = tt
      go none (some w) d e =
          let (u, s, _) = step_same types' types good' good ((agree types' l w.event t' w.term).0 e) (same_turned given types types' h) Δ (retyped types types' good good' h Γ Δ l v i) in
          never (sym ((agree types l w.event t u).1 s) ∙ d)
      go (some m) none d e =
          let (u, s, _) = step_same types types' good good' ((agree types l m.event t m.term).0 d) h Γ i in
          never (sym ((agree types' l m.event t' u).1 s) ∙ e)
      go (some m) (some w) d e =
          let (x, s, k) = step_same types types' good good' ((agree types l m.event t m.term).0 d) h Γ i in
          let n : Next = record { event = m.event; term = x } in
          let p : n ≡ w = cc ((agree types' l m.event t' x).1 s, e) in
          record { event = ap (λ r. r.event) p; term = subst (λ r. SameTerm types types' m.term r.term) p k }

  more_same : (e e' : Event) (c d : Course) → e ≡ e' → SameCourse types types' c d → SameCourse types types' (after_step e c) (after_step e' d)
  more_same e e' c d p h = record { ending = h.ending; trace = λ i. p i ∷ h.trace i; last = h.last }

  pub course_same : (fuel : ℕ) {t t' : Term} → SameTerm types types' t t' → Typed types [] 0 t → SameCourse types types' (course types fuel t) (course types' fuel t')
  unfolding course
  course_same zero {t} {t'} h i = tested₂ (SameCourse types types') (value t) (value t') _ _ _ _ (value_alike h)
      (λ _. record { ending = refl; trace = refl; last = h }) (λ _. record { ending = refl; trace = refl; last = h })
  course_same (suc fuel) {t} {t'} h i = tested₂ (SameCourse types types') (value t) (value t') _ _ _ _ (value_alike h)
      (λ _. record { ending = refl; trace = refl; last = h })
      (λ _. option₂ (SameCourse types types') (SameNext types types') (next types 0 t) (next types' 0 t') _ _ _ _ (next_same 0 [] [] tt h i) (record { ending = refl; trace = refl; last = h })
      (λ m w d e k. tested₂ (SameCourse types types') (ltb most_records (size m.term)) (ltb most_records (size w.term)) _ _ _ _ (ap (ltb most_records) (size_alike k.term))
      (λ _. record { ending = refl; trace = refl; last = h })
      (λ _. more_same m.event w.event _ _ k.event (course_same fuel k.term (preserved types (unlike types good) ((agree types 0 m.event t m.term).0 d) [] i).0))))
