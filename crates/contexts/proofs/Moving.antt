-- Where the focus is done: its frame's record steps the next child, or is rewritten itself, or is done.
use Prim.Native.Nat.{ℕ, zero, suc, ◌≤◌}
use native.Mathlib.Omega.{arith}
use mathlib.Core.List.{◌∷◌}
use mathlib.Core.Bool.{not}
use mathlib.Core.Path.{◌≡◌, refl, ap}
use mathlib.Core.Logic.{◌⊎◌, inl, inr, ⊎_elim}
use lib.Dec.{T, T_not, ltb→lt, eqb, eqb-suc-zero}
use mir.Facts.{yes_and}
use Rattle.rules.specs.Kinds.{Unary, function, fix, lift, quote, splice, application, match, Kind, leaf₀, unary₁, binary₂, ternary₃, child_count}
use Rattle.rules.specs.Terms.{Fields, Term, leaf, unary, binary, ternary, root_kind}
use Rattle.rules.specs.Types.{Table}
use Rattle.rules.specs.Typing.{Env, Typed, level₁, first_level}
use Rattle.rules.specs.Values.{plain, value, done}
use Rattle.rules.specs.Contractions.{Contraction, contracts}
use Rattle.rules.specs.Steps.{enters, stepping, steps_child, Event, here, in_child, in_first, in_second, in_first₃, in_second₃, in_third₃, Step}
use Rattle.rules.specs.Next.{Next, next}
use Rattle.rules.proofs.General.{picked, tested}
use Rattle.rules.proofs.Agree.{entered, steps_earlier, rests, agree}
use Rattle.rules.proofs.Progress.{Later, goes, value_or}
use Rattle.terms.specs.Children.{kids}
use Rattle.contexts.proofs.Contexts.{root_filled, steps_first}
use Rattle.contexts.specs.Contexts.{Frame, only, first, second, first₃, second₃, third₃, fill, frame_kind, hole_number, hole_level, StepsHole, Context, plug, level_at, Evaluation}
use Rattle.contexts.specs.Moving.{Settled, Ready, MovedOn, Onward, moves, contracted, ended}

-- No record steps more children than it has.
stepping_few : (l : ℕ) (k : Kind) → stepping l k ≤ child_count k
stepping_few l (leaf₀ k) = omega arith
stepping_few l (unary₁ k) = picked (λ n. n ≤ 1) (enters l k) (λ _. omega arith) (λ _. omega arith)
stepping_few l (binary₂ k) = omega arith
stepping_few l (ternary₃ (match k)) = picked (λ n. n ≤ 3) (eqb l 0) (λ _. omega arith) (λ _. omega arith)

none_beyond : (l : ℕ) (k : Kind) → T (steps_child l k (child_count k)) → ⊥
none_beyond l k s = omega (arith, ltb→lt (child_count k) (stepping l k) s, stepping_few l k)

-- The focus is done and its frame's record steps a further child: the hole moves on to that.
pub moved_on : (l : ℕ) (F : Frame) (t : Term) → StepsHole l F → T (done (hole_level F l) t) → T (steps_child l (frame_kind F) (suc (hole_number F))) → MovedOn l F t
moved_on l (only k f) t p d s = absurd (none_beyond l (unary₁ k) s)
moved_on l (first k f u) t p d s = record { frame = second k f t; child = u; same = refl; kind = refl; fields = refl; before = refl; after = refl; steps = (s, (d, tt)) }
moved_on l (second k f r) t p d s = absurd (none_beyond l (binary₂ k) s)
moved_on l (first₃ k f u v) t p d s = record { frame = second₃ k f t v; child = u; same = refl; kind = refl; fields = refl; before = refl; after = refl; steps = (s, (d, tt)) }
moved_on l (second₃ k f r v) t (_, (q, _)) d s = record { frame = third₃ k f r t; child = v; same = refl; kind = refl; fields = refl; before = refl; after = refl; steps = (s, (q, (d, tt))) }
moved_on l (third₃ k f r u) t p d s = absurd (none_beyond l (ternary₃ k) s)

-- In a context: the same whole term, and an evaluation context again, whose hole is at the same level.
pub moved_inside : (l : ℕ) (F : Frame) (C : Context) (t : Term) (m : MovedOn (level_at l C) F t) → Evaluation l (F ∷ C)
    → (plug (F ∷ C) t ≡ plug (m.frame ∷ C) m.child) × Evaluation l (m.frame ∷ C) × (level_at l (F ∷ C) ≡ level_at l (m.frame ∷ C))
unfolding plug level_at Evaluation
moved_inside l F C t m (_, h) = (ap (plug C) m.same, (m.steps, h), ap (λ k. first_level k (level_at l C)) m.kind)

-- The focus is done and its frame's record steps no further child: the frame's tree is ready.
pub ready : (l : ℕ) (F : Frame) (t : Term) → StepsHole l F → T (done (hole_level F l) t) → T (not (steps_child l (frame_kind F) (suc (hole_number F)))) → Ready l (fill F t)
unfolding kids Settled
ready l (only k f) t p d n = (λ _. d, tt)
ready l (first k f u) t p d n = (λ _. d, (λ s. absurd (T_not (steps_child l (binary₂ k) 1) n s), tt))
ready l (second k f r) t (_, (q, _)) d n = (λ _. q, (λ _. d, tt))
ready l (first₃ k f u v) t p d n =
    let last : T (steps_child l (ternary₃ k) 1) → ⊥ = T_not (steps_child l (ternary₃ k) 1) n in
    (λ _. d, (λ s. absurd (last s), (λ s. absurd (last (steps_earlier l (ternary₃ k) 1 s)), tt)))
ready l (second₃ k f r v) t (_, (q, _)) d n = (λ _. q, (λ _. d, (λ s. absurd (T_not (steps_child l (ternary₃ k) 2) n s), tt)))
ready l (third₃ k f r u) t (_, (q, (o, _))) d n = (λ _. q, (λ _. o, (λ _. d, tt)))

-- A tree that is ready and steps children is done, unless its kind is rewritten at its level.
unary_done : (l : ℕ) (k : Unary) (f : Fields) (t : Term) → T (enters l k) → T (done (level₁ k l) t) → T (not (contracts l (unary₁ k))) → T (done l (unary k f t))
unfolding plain value
unary_done zero function f t en d c = absurd en
unary_done zero fix f t en d c = absurd c
unary_done zero lift f t en d c = absurd c
unary_done zero quote f t en d c = d
unary_done zero splice f t en d c = absurd en
unary_done (suc l) function f t en d c = d
unary_done (suc l) fix f t en d c = d
unary_done (suc l) lift f t en d c = absurd (rw (eqb-suc-zero l) at en)
unary_done (suc l) quote f t en d c = absurd (rw (eqb-suc-zero l) at en)
unary_done (suc l) splice f t en d c = absurd (T_not (eqb (suc l) 1) c en)

pub ready_done : (l : ℕ) (t : Term) → Ready l t → T (steps_child l (root_kind t) 0) → T (not (contracts l (root_kind t))) → T (done l t)
unfolding kids Settled plain value
ready_done l (leaf k f) r s c = absurd s
ready_done l (unary k f t) (r, _) s c = unary_done l k f t (entered l k s) (r s) c
ready_done zero (binary application f t u) r s c = absurd c
ready_done (suc l) (binary application f t u) (p, (q, _)) s c = yes_and (plain t) (plain u) (p tt) (q tt)
ready_done zero (ternary (match k) f t u v) r s c = absurd c
ready_done (suc l) (ternary (match k) f t u v) r s c = absurd (rw (eqb-suc-zero l) at s)

-- So is a frame's tree.
pub frame_done : (l : ℕ) (F : Frame) (t : Term) → StepsHole l F → Ready l (fill F t) → T (not (contracts l (frame_kind F))) → T (done l (fill F t))
frame_done l F t (s, _) r c = ready_done l (fill F t) r (rw (root_filled F t).0 (steps_first l (frame_kind F) (hole_number F) s)) (rw (root_filled F t).0 c)

-- A frame whose hole is done steps its next child, or is rewritten itself, or is done.
pub onward : (l : ℕ) (F : Frame) (t : Term) → StepsHole l F → T (done (hole_level F l) t) → Onward l F t
onward l F t p d = tested {A = Unit {0}} (λ _. Onward l F t) (steps_child l (frame_kind F) (suc (hole_number F))) tt tt
    (λ s. moves (moved_on l F t p d s))
    (λ n. let r = ready l F t p d n in tested {A = Unit {0}} (λ _. Onward l F t) (contracts l (frame_kind F)) tt tt (contracted r) (λ c. ended (frame_done l F t p r c)))

-- What is done isn't of a kind that is rewritten at its level.
pub done_stays : (l : ℕ) (t : Term) → T (done l t) → T (contracts l (root_kind t)) → ⊥
unfolding plain value
done_stays l (leaf k f) d c = c
done_stays l (unary function f t) d c = c
done_stays zero (unary fix f t) d c = d
done_stays (suc l) (unary fix f t) d c = rw (eqb-suc-zero l) at c
done_stays zero (unary lift f t) d c = d
done_stays (suc l) (unary lift f t) d c = d
done_stays l (unary quote f t) d c = c
done_stays zero (unary splice f t) d c = d
done_stays (suc l) (unary splice f t) d c = d
done_stays zero (binary k f t u) d c = d
done_stays (suc l) (binary application f t u) d c = rw (eqb-suc-zero l) at c
done_stays zero (ternary k f t u v) d c = d
done_stays (suc l) (ternary (match k) f t u v) d c = d

module _ (types : Table) where
  -- A step of a tree that is ready rewrites its root.
  pub ready_contracts : {l : ℕ} {e : Event} {t u : Term} → Step types l e t u → Ready l t → (e.place ≡ 1) × Contraction types l e.rule e.replaced t u
  unfolding kids Settled
  ready_contracts (here c) r = (refl, c)
  ready_contracts (in_child l k f s d) r = absurd (rests types d (r.0 s))
  ready_contracts (in_first l k f u s d) r = absurd (rests types d (r.0 s))
  ready_contracts (in_second l k f t s q d) r = absurd (rests types d (r.1.0 s))
  ready_contracts (in_first₃ l k f u v s d) r = absurd (rests types d (r.0 s))
  ready_contracts (in_second₃ l k f t v s q d) r = absurd (rests types d (r.1.0 s))
  ready_contracts (in_third₃ l k f t u s q o d) r = absurd (rests types d (r.1.1.0 s))

  -- A typed tree is done or makes a step.
  pub done_or_steps : (l : ℕ) (Γ : Env) (t : Term) → l ≤ 1 → Later Γ → Typed types Γ l t → T (done l t) ⊎ ((m : Next) × Step types l m.event t m.term)
  done_or_steps l Γ t b y h = ⊎_elim inl (λ (m, n). inr (m, (agree types l m.event t m.term).0 n)) (value_or types (done l t) (next types l t) (goes types l Γ t b y h))

  -- A typed tree that is ready is rewritten, where its kind is.
  pub ready_redex : (l : ℕ) (Γ : Env) (t : Term) → l ≤ 1 → Later Γ → Typed types Γ l t → Ready l t → T (contracts l (root_kind t))
      → (m : Next) × Contraction types l m.event.rule m.event.replaced t m.term
  ready_redex l Γ t b y h r c = ⊎_elim (λ d. absurd (done_stays l t d c)) (λ (m, s). (m, (ready_contracts s r).1)) (done_or_steps l Γ t b y h)
