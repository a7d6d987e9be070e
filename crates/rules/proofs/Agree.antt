-- The function that takes the next term and the step relation say the same, so the relation is deterministic.
use Prim.Native.Nat.{ℕ, zero, suc}
use native.Mathlib.Omega.{arith}
use mathlib.Core.List.{List}
use mathlib.Core.Bool.{Bool, true, false, ◌&&◌, not}
use mathlib.Core.Option.{Option, none, some}
use mathlib.Core.Path.{◌≡◌, refl, subst, ap}
use mathlib.Core.Logic.{◌↔◌}
use lib.Dec.{T, T_not, not_T, ltb, ltb→lt, lt→ltb}
use mir.Facts.{and_yes, yes_and}
use Rattle.rules.specs.Lists.{pick}
use Rattle.rules.specs.Kinds.{number, variable, Unary, function, fix, lift, quote, splice, Binary, application, Match, Ternary, match, Kind, unary₁, binary₂, ternary₃}
use Rattle.rules.specs.Terms.{Fields, Term, leaf, unary, binary, ternary}
use Rattle.rules.specs.Types.{Table}
use Rattle.rules.specs.Typing.{level₁, first_level}
use Rattle.rules.specs.Values.{plain, value, done}
use Rattle.rules.specs.Matching.{matched}
use Rattle.rules.specs.Contractions.{StepRule, Contraction, apply, unroll, lifted, spliced, succeeds, fails}
use Rattle.rules.specs.Steps.{enters, stepping, steps_child, Event, StepWhere, here, in_child, in_first, in_second, in_first₃, in_second₃, in_third₃, Step}
use Rattle.rules.specs.Next.{body_of, code_of, numeral_of, Next, contracted₁, contracted₂, contracted₃, chosen, waits, next}
use Rattle.rules.proofs.General.{Gives, is_false, is_true, mapped_gives, tested}

-- A kind with one child steps it where it enters it.
pub entered : (l : ℕ) (k : Unary) → T (steps_child l (unary₁ k) 0) → T (enters l k)
entered l k h = go (enters l k) h
  where
    go : (b : Bool) → T (ltb 0 (pick b 1 0)) → T b
    go true s = tt
    go false s = s

-- What is done has only done children where it steps them.
pub done_child : (l : ℕ) (k : Unary) (f : Fields) (t : Term) → T (steps_child l (unary₁ k) 0) → T (done l (unary k f t)) → T (done (level₁ k l) t)
unfolding plain value
done_child zero function f t en h = absurd en
done_child zero fix f t en h = absurd h
done_child zero lift f t en h = absurd h
done_child zero quote f t en h = h
done_child zero splice f t en h = absurd en
done_child (suc l) function f t en h = h
done_child (suc l) fix f t en h = h
done_child (suc l) lift f t en h = absurd h
done_child (suc l) quote f t en h = absurd h
done_child (suc l) splice f t en h = absurd h

pub done_both : (l : ℕ) (k : Binary) (f : Fields) (t u : Term) → T (done l (binary k f t u)) → T (done l t) × T (done l u)
unfolding plain value
done_both zero k f t u h = absurd h
done_both (suc l) k f t u h = and_yes (plain t) (plain u) h

pub done_three : (l : ℕ) (k : Ternary) (f : Fields) (t s e : Term) → T (done l (ternary k f t s e)) → T (done l t) × T (done l s) × T (done l e)
unfolding plain value
done_three zero k f t s e h = absurd h
done_three (suc l) (match k) f t s e h = absurd h

-- What the test of a child that waits tells.
module _ (l : ℕ) (k : Kind) (i : ℕ) (t : Term) where
  pub waits_yes : T (steps_child l k i) → (T (done (first_level k l) t) → ⊥) → waits l k i t ≡ true
  unfolding waits
  waits_yes s n = is_true (steps_child l k i && not (done (first_level k l) t)) (yes_and (steps_child l k i) (not (done (first_level k l) t)) s (not_T (done (first_level k l) t) n))

  pub waits_no : T (done (first_level k l) t) → waits l k i t ≡ false
  unfolding waits
  waits_no d = is_false (steps_child l k i && not (done (first_level k l) t)) (λ h. T_not (done (first_level k l) t) (and_yes (steps_child l k i) (not (done (first_level k l) t)) h).1 d)

  pub waiting : T (waits l k i t) → T (steps_child l k i)
  unfolding waits
  waiting h = (and_yes (steps_child l k i) (not (done (first_level k l) t)) h).0

  pub undone : T (waits l k i t) → T (not (done (first_level k l) t))
  unfolding waits
  undone h = (and_yes (steps_child l k i) (not (done (first_level k l) t)) h).1

  pub settled : T (not (waits l k i t)) → T (steps_child l k i) → T (done (first_level k l) t)
  unfolding waits
  settled h s = go (done (first_level k l) t) (λ n. T_not (waits l k i t) h (rw (waits_yes s n) tt))
    where
      go : (b : Bool) → ((T b → ⊥) → ⊥) → T b
      go true n = tt
      go false n = absurd (n (λ x. x))

-- A kind that steps a child steps those before it.
pub steps_earlier : (l : ℕ) (k : Kind) (i : ℕ) → T (steps_child l k (suc i)) → T (steps_child l k i)
steps_earlier l k i h = lt→ltb i (stepping l k) (omega (arith, ltb→lt (suc i) (stepping l k) h))

module _ (types : Table) where
  -- What is done makes no step, in whatever order.
  pub contraction_rests : {l n : ℕ} {r : StepRule} {t u : Term} → Contraction types l r n t u → T (done l t) → ⊥
  unfolding plain value
  contraction_rests (apply f g b v p) h = h
  contraction_rests (unroll f g b) h = h
  contraction_rests (lifted f g) h = h
  contraction_rests (spliced f g c p) h = h
  contraction_rests (succeeds k f g c s e ts p m) h = h
  contraction_rests (fails k f g c s e p m) h = h

  pub rests : {ready : ℕ → Term → Type 0} {l : ℕ} {e : Event} {t u : Term} → StepWhere types ready l e t u → T (done l t) → ⊥
  rests (here c) h = contraction_rests c h
  rests (in_child l k f {t = t} en d) h = rests d (done_child l k f t en h)
  rests (in_first l k f {t = t} u _ d) h = rests d (done_both l k f t u h).0
  rests (in_second l k f t {u = u} _ _ d) h = rests d (done_both l k f t u h).1
  rests (in_first₃ l k f {t = t} u v _ d) h = rests d (done_three l k f t u v h).0
  rests (in_second₃ l k f t {u = u} v _ _ d) h = rests d (done_three l k f t u v h).1
  rests (in_third₃ l k f t u {v = v} _ _ _ d) h = rests d (done_three l k f t u v h).2

  -- Each step is the function's.
  abbrev pub after : Event → Term → Next
  after e u = record { event = e; term = u }

  contraction_complete : {l n : ℕ} {r : StepRule} {t u : Term} → Contraction types l r n t u → next types l t ≡ some (after (record { place = 1; rule = r; replaced = n }) u)
  unfolding next waits value plain
  contraction_complete (apply f g b v p) = rw (is_true (value v) p, next)
  contraction_complete (unroll f g b) = refl
  contraction_complete (lifted f g) = refl
  contraction_complete (spliced f g c p) = rw (is_true (plain c) p, next)
  contraction_complete (succeeds k f g c s e ts p m) = rw (is_true (plain c) p, m, next)
  contraction_complete (fails k f g c s e p m) = rw (is_true (plain c) p, m, next)

  pub complete : {l : ℕ} {e : Event} {t u : Term} → Step types l e t u → next types l t ≡ some (after e u)
  unfolding next
  complete (here c) = contraction_complete c
  complete (in_child l k f {t = t} s d) = rw (waits_yes l (unary₁ k) 0 t s (rests d), complete d, next)
  complete (in_first l k f {t = t} u s d) = rw (waits_yes l (binary₂ k) 0 t s (rests d), complete d, next)
  complete (in_second l k f t {u = u} s r d) = rw (waits_no l (binary₂ k) 0 t r, waits_yes l (binary₂ k) 1 u s (rests d), complete d, next)
  complete (in_first₃ l k f {t = t} u v s d) = rw (waits_yes l (ternary₃ k) 0 t s (rests d), complete d, next)
  complete (in_second₃ l k f t {u = u} v s r d) = rw (waits_no l (ternary₃ k) 0 t r, waits_yes l (ternary₃ k) 1 u s (rests d), complete d, next)
  complete (in_third₃ l k f t u {v = v} s r q d) = rw (waits_no l (ternary₃ k) 0 t r, waits_no l (ternary₃ k) 1 u q, waits_yes l (ternary₃ k) 2 v s (rests d), complete d, next)

  -- What the function takes is a step.
  body_is : (t : Term) → Gives (λ b. (g : Fields) × (t ≡ unary function g b)) (body_of t)
  body_is (leaf k f) = tt
  body_is (unary function f t) = (f, refl)
  body_is (unary fix f t) = tt
  body_is (unary lift f t) = tt
  body_is (unary quote f t) = tt
  body_is (unary splice f t) = tt
  body_is (binary k f t u) = tt
  body_is (ternary k f t s e) = tt

  code_is : (t : Term) → T (value t) → Gives (λ c. (g : Fields) × (t ≡ unary quote g c) × T (plain c)) (code_of t)
  unfolding value
  code_is (leaf k f) v = tt
  code_is (unary function f t) v = tt
  code_is (unary fix f t) v = tt
  code_is (unary lift f t) v = tt
  code_is (unary quote f t) v = (f, refl, v)
  code_is (unary splice f t) v = tt
  code_is (binary k f t u) v = tt
  code_is (ternary k f t s e) v = tt

  number_is : (t : Term) → Gives (λ g. t ≡ leaf number g) (numeral_of t)
  number_is (leaf number f) = refl
  number_is (leaf variable f) = tt
  number_is (unary k f t) = tt
  number_is (binary k f t u) = tt
  number_is (ternary k f t s e) = tt

  -- The step that the function's answer m makes of t.
  abbrev pub Takes : ℕ → Term → Next → Type 0
  Takes l t m = Step types l m.event t m.term

  contracts₁ : (l : ℕ) (k : Unary) (f : Fields) (t : Term) → (T (steps_child l (unary₁ k) 0) → T (done (level₁ k l) t)) → Gives (Takes l (unary k f t)) (contracted₁ l k f t)
  contracts₁ l function f t d = tt
  contracts₁ zero fix f t d = mapped_gives _ _ (λ b r. rw r.1 (here (unroll f r.0 b))) (body_of t) (body_is t)
  contracts₁ (suc l) fix f t d = tt
  contracts₁ zero lift f t d = mapped_gives _ _ (λ g r. rw r (here (lifted f g))) (numeral_of t) (number_is t)
  contracts₁ (suc l) lift f t d = tt
  contracts₁ l quote f t d = tt
  contracts₁ zero splice f t d = tt
  contracts₁ (suc zero) splice f t d = mapped_gives _ _ (λ c r. rw r.1 (here (spliced f r.0 c r.2))) (code_of t) (code_is t (d tt))
  contracts₁ (suc (suc l)) splice f t d = tt

  contracts₂ : (l : ℕ) (k : Binary) (f : Fields) (t u : Term) → T (done l u) → Gives (Takes l (binary k f t u)) (contracted₂ l k f t u)
  contracts₂ zero application f t u w = mapped_gives _ _ (λ b r. rw r.1 (here (apply f r.0 b u w))) (body_of t) (body_is t)
  contracts₂ (suc l) application f t u w = tt

  chooses : (k : Match) (f g : Fields) (c s e : Term) (o : Option (List Term)) → T (plain c) → matched types k f c ≡ o → Takes 0 (ternary (match k) f (unary quote g c) s e) (chosen k o s e)
  chooses k f g c s e none p m = here (fails k f g c s e p m)
  chooses k f g c s e (some ts) p m = here (succeeds k f g c s e ts p m)

  contracts₃ : (l : ℕ) (k : Ternary) (f : Fields) (t s e : Term) → (T (steps_child l (ternary₃ k) 0) → T (done l t)) → Gives (Takes l (ternary k f t s e)) (contracted₃ types l k f t s e)
  contracts₃ zero (match k) f t s e d = mapped_gives _ _ (λ c r. rw r.1 (chooses k f r.0 c s e (matched types k f c) r.2 refl)) (code_of t) (code_is t (d tt))
  contracts₃ (suc l) (match k) f t s e d = tt

  pub sound : (l : ℕ) (t : Term) → Gives (Takes l t) (next types l t)
  unfolding next
  sound l (leaf k f) = tt
  sound l (unary k f t) = tested (Gives (Takes l (unary k f t))) (waits l (unary₁ k) 0 t) _ _
      (λ w. mapped_gives _ _ (λ x d. in_child l k f (waiting l (unary₁ k) 0 t w) d) (next types (level₁ k l) t) (sound (level₁ k l) t))
      (λ w. contracts₁ l k f t (settled l (unary₁ k) 0 t w))
  sound l (binary k f t u) = tested (Gives (Takes l (binary k f t u))) (waits l (binary₂ k) 0 t) _ _
      (λ w. mapped_gives _ _ (λ x d. in_first l k f u (waiting l (binary₂ k) 0 t w) d) (next types l t) (sound l t))
      (λ w. tested (Gives (Takes l (binary k f t u))) (waits l (binary₂ k) 1 u) _ _
      (λ w'. let s = waiting l (binary₂ k) 1 u w' in
      mapped_gives _ _ (λ x d. in_second l k f t s (settled l (binary₂ k) 0 t w (steps_earlier l (binary₂ k) 0 s)) d) (next types l u) (sound l u))
      (λ w'. contracts₂ l k f t u (settled l (binary₂ k) 1 u w' tt)))
  sound l (ternary k f t s e) = tested (Gives (Takes l (ternary k f t s e))) (waits l (ternary₃ k) 0 t) _ _
      (λ w. mapped_gives _ _ (λ x d. in_first₃ l k f s e (waiting l (ternary₃ k) 0 t w) d) (next types l t) (sound l t))
      (λ w. tested (Gives (Takes l (ternary k f t s e))) (waits l (ternary₃ k) 1 s) _ _
      (λ w'. let h = waiting l (ternary₃ k) 1 s w' in
      mapped_gives _ _ (λ x d. in_second₃ l k f t e h (settled l (ternary₃ k) 0 t w (steps_earlier l (ternary₃ k) 0 h)) d) (next types l s) (sound l s))
      (λ w'. tested (Gives (Takes l (ternary k f t s e))) (waits l (ternary₃ k) 2 e) _ _
      (λ w''. let h = waiting l (ternary₃ k) 2 e w'' in
      let i = steps_earlier l (ternary₃ k) 1 h in
      mapped_gives _ _ (λ x d. in_third₃ l k f t s h (settled l (ternary₃ k) 0 t w (steps_earlier l (ternary₃ k) 0 i)) (settled l (ternary₃ k) 1 s w' i) d) (next types l e) (sound l e))
      (λ w''. contracts₃ l k f t s e (settled l (ternary₃ k) 0 t w))))

  pub agree : (l : ℕ) (e : Event) (t u : Term) → next types l t ≡ some (after e u) ↔ Step types l e t u
  agree l e t u = (λ q. subst (Gives (Takes l t)) q (sound l t), complete)

  -- A term makes one step at most, to one term and with one event.
  pub same_step : {l : ℕ} {e e' : Event} {t u w : Term} → Step types l e t u → Step types l e' t w → after e u ≡ after e' w
  same_step d d' = cc (complete d, complete d')

  pub deterministic : {l : ℕ} {e e' : Event} {t u w : Term} → Step types l e t u → Step types l e' t w → u ≡ w
  deterministic d d' = ap (λ m. m.term) (same_step d d')

  pub same_event : {l : ℕ} {e e' : Event} {t u w : Term} → Step types l e t u → Step types l e' t w → e ≡ e'
  same_event d d' = ap (λ m. m.event) (same_step d d')
