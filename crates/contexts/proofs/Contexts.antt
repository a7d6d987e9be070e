-- Steps in an evaluation context: a step of the focus is the step of the whole term, and its event is further by the records before the hole.
use Prim.Native.Nat.{ℕ, ◌+◌}
use native.Mathlib.Omega.{arith}
use native.Mathlib.Nat.{zero-add, add-zero, add_assoc}
use mathlib.Core.List.{[], ◌∷◌, ◌++◌}
use mathlib.Core.Path.{◌≡◌, refl, ap}
use lib.Dec.{T, ltb→lt, lt→ltb}
use Rattle.rules.specs.Kinds.{Kind}
use Rattle.rules.specs.Terms.{Term, root_kind, fields_of, size}
use Rattle.rules.specs.Types.{Table}
use Rattle.rules.specs.Contractions.{StepRule, Contraction}
use Rattle.rules.specs.Steps.{stepping, steps_child, Event, at_root, further, here, in_child, in_first, in_second, in_first₃, in_second₃, in_third₃, Step}
use Rattle.terms.specs.Children.{sizes}
use Rattle.contexts.specs.Contexts.{Frame, only, first, second, first₃, second₃, third₃, fill, frame_kind, frame_fields, children_before, hole_level, StepsHole, Context, plug, level_at, left_size, Evaluation}

-- The root of a frame's tree is the frame's record.
pub root_filled : (F : Frame) (t : Term) → (root_kind (fill F t) ≡ frame_kind F) × (fields_of (fill F t) ≡ frame_fields F)
root_filled (only k f) t = (refl, refl)
root_filled (first k f u) t = (refl, refl)
root_filled (second k f s) t = (refl, refl)
root_filled (first₃ k f u v) t = (refl, refl)
root_filled (second₃ k f s v) t = (refl, refl)
root_filled (third₃ k f s u) t = (refl, refl)

-- A record that steps a child steps its first.
pub steps_first : (l : ℕ) (k : Kind) (i : ℕ) → T (steps_child l k i) → T (steps_child l k 0)
steps_first l k i s = lt→ltb 0 (stepping l k) (omega (arith, ltb→lt i (stepping l k) s))

-- One context in the hole of another.
pub plug_append : (D C : Context) (t : Term) → plug (D ++ C) t ≡ plug C (plug D t)
unfolding plug
plug_append [] C t = refl
plug_append (F ∷ D) C t = plug_append D C (fill F t)

pub level_append : (l : ℕ) (D C : Context) → level_at l (D ++ C) ≡ level_at (level_at l C) D
unfolding level_at
level_append l [] C = refl
level_append l (F ∷ D) C = ap (hole_level F) (level_append l D C)

pub left_append : (D C : Context) → left_size (D ++ C) ≡ left_size C + left_size D
unfolding left_size
left_append [] C = omega arith
left_append (F ∷ D) C = omega (arith, left_append D C)

pub evaluation_append : (l : ℕ) (D C : Context) → Evaluation (level_at l C) D → Evaluation l C → Evaluation l (D ++ C)
unfolding Evaluation
evaluation_append l [] C h k = k
evaluation_append l (F ∷ D) C (p, h) k = (rw (level_append l D C) p, evaluation_append l D C h k)

module _ (types : Table) where
  -- A step of the child in a frame's hole is a step of the frame's tree.
  pub step_filled : (l : ℕ) (F : Frame) {e : Event} {t u : Term} → StepsHole l F → Step types (hole_level F l) e t u
      → Step types l (further (1 + sizes (children_before F)) e) (fill F t) (fill F u)
  unfolding sizes
  step_filled l (only k f) (s, _) d = in_child l k f s d
  step_filled l (first k f u) (s, _) d = in_first l k f u s d
  step_filled l (second k f t) (s, (r, _)) d = rw (add-zero (size t)) (in_second l k f t s r d)
  step_filled l (first₃ k f u v) (s, _) d = in_first₃ l k f u v s d
  step_filled l (second₃ k f t v) (s, (r, _)) d = rw (add-zero (size t)) (in_second₃ l k f t v s r d)
  step_filled l (third₃ k f t u) (s, (r, (q, _))) d = rw (add-zero (size u), ← add_assoc 1 (size t) (size u)) (in_third₃ l k f t u s r q d)

  -- And each step is a contraction of the root or a step of the child in a frame's hole: what is shown of these two is shown of every step.
  module _ (P : ℕ → Event → Term → Term → Type 0) (root : (l n : ℕ) (r : StepRule) (t u : Term) → Contraction types l r n t u → P l (at_root r n) t u)
      (hole : (l : ℕ) (F : Frame) (e : Event) (t u : Term) → StepsHole l F → Step types (hole_level F l) e t u → P (hole_level F l) e t u → P l (further (1 + sizes (children_before F)) e) (fill F t) (fill F u)) where
    pub by_frames : {l : ℕ} {e : Event} {t u : Term} → Step types l e t u → P l e t u
    unfolding sizes
    by_frames (here c) = root _ _ _ _ _ c
    by_frames (in_child l k f s d) = hole l (only k f) _ _ _ (s, tt) d (by_frames d)
    by_frames (in_first l k f u s d) = hole l (first k f u) _ _ _ (s, tt) d (by_frames d)
    by_frames (in_second l k f t s r d) = rw (← add-zero (size t)) (hole l (second k f t) _ _ _ (s, (r, tt)) d (by_frames d))
    by_frames (in_first₃ l k f u v s d) = hole l (first₃ k f u v) _ _ _ (s, tt) d (by_frames d)
    by_frames (in_second₃ l k f t v s r d) = rw (← add-zero (size t)) (hole l (second₃ k f t v) _ _ _ (s, (r, tt)) d (by_frames d))
    by_frames (in_third₃ l k f t u s r q d) = rw (← add-zero (size u), add_assoc 1 (size t) (size u + 0)) (hole l (third₃ k f t u) _ _ _ (s, (r, (q, tt))) d (by_frames d))

  -- A step of the focus is a step of the whole term.
  pub step_plugged : (l : ℕ) (C : Context) {e : Event} {t u : Term} → Evaluation l C → Step types (level_at l C) e t u
      → Step types l (further (left_size C) e) (plug C t) (plug C u)
  unfolding plug level_at left_size Evaluation
  step_plugged l [] {e} h d = rw (zero-add e.place) d
  step_plugged l (F ∷ C) {e} (p, h) d = rw (add_assoc (left_size C) (1 + sizes (children_before F)) e.place) (step_plugged l C h (step_filled (level_at l C) F p d))
