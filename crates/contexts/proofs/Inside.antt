-- Typing in a context: what fills the hole of a term that keeps the rules keeps them at the hole's level and under its binders. In an evaluation
-- context these are all of level 1.
use Prim.Native.Nat.{ℕ, ◌+◌, ◌*◌, ◌≤◌}
use native.Mathlib.Omega.{arith}
use mathlib.Core.List.{[], ◌∷◌}
use mathlib.Core.Path.{◌≡◌, refl}
use lib.Dec.{T, eqb, eqb→eq, ltb→lt}
use lib.ListN.{length}
use Rattle.rules.specs.Kinds.{function, fix, lift, quote, splice, Ternary, match, Kind, leaf₀, unary₁, binary₂, ternary₃}
use Rattle.rules.specs.Terms.{Fields, Term, size}
use Rattle.rules.specs.Binders.{binds₁, binds₃}
use Rattle.rules.specs.Types.{Table}
use Rattle.rules.specs.Typing.{Env, Typed, under, first_level}
use Rattle.rules.specs.Steps.{stepping, steps_child}
use Rattle.rules.proofs.General.{picked}
use Rattle.rules.proofs.Agree.{entered}
use Rattle.rules.proofs.Progress.{Later, later_under, level_low}
use Rattle.rules.proofs.Written.{binds_one, binds_two, under_length}
use Rattle.contexts.specs.Contexts.{Frame, only, first, second, first₃, second₃, third₃, fill, frame_kind, hole_number, hole_level, outer_level, over_hole, StepsHole, Context, plug, level_at, binders_at, Evaluation}
use Rattle.contexts.proofs.Contexts.{steps_first}

-- Levels are 0 and 1.
kind_low : (k : Kind) (l : ℕ) → l ≤ 1 → first_level k l ≤ 1
kind_low (leaf₀ k) l b = b
kind_low (unary₁ k) l b = level_low l k b
kind_low (binary₂ k) l b = b
kind_low (ternary₃ k) l b = b

pub levels_low : (l : ℕ) (C : Context) → l ≤ 1 → level_at l C ≤ 1
unfolding level_at
levels_low l [] b = b
levels_low l (F ∷ C) b = kind_low (frame_kind F) (level_at l C) (levels_low l C b)

-- The level of a record that steps a child is told by the child's.
outer_kind : (k : Kind) (l : ℕ) → T (steps_child l k 0) → outer_level k (first_level k l) ≡ l
outer_kind (leaf₀ k) l s = refl
outer_kind (unary₁ function) l s = refl
outer_kind (unary₁ fix) l s = refl
outer_kind (unary₁ lift) l s = refl
outer_kind (unary₁ quote) l s = omega (arith, eqb→eq l 0 (entered l quote s))
outer_kind (unary₁ splice) l s = omega (arith, eqb→eq l 1 (entered l splice s))
outer_kind (binary₂ k) l s = refl
outer_kind (ternary₃ k) l s = refl

pub outer_level_lem : (l : ℕ) (F : Frame) → StepsHole l F → outer_level (frame_kind F) (hole_level F l) ≡ l
outer_level_lem l F (s, _) = outer_kind (frame_kind F) l (steps_first l (frame_kind F) (hole_number F) s)

-- Binders over the hole of an evaluation context are of level 1: no kind that binds over its second child steps that.
later_second : (l : ℕ) (k : Ternary) (f : Fields) (Γ : Env) → T (steps_child l (ternary₃ k) 1) → Later Γ → Later (under 0 (binds₃ k f) Γ)
later_second l (match k) f Γ s y =
    let few : stepping l (ternary₃ (match k)) ≤ 1 = picked (λ n. n ≤ 1) (eqb l 0) (λ _. omega arith) (λ _. omega arith) in
    absurd (omega (arith, ltb→lt 1 (stepping l (ternary₃ (match k))) s))

later_over : (l : ℕ) (F : Frame) (Γ : Env) → StepsHole l F → Later Γ → Later (over_hole l F Γ)
later_over l (only k f) Γ (s, _) y = later_under l k f Γ s y
later_over l (first k f u) Γ p y = y
later_over l (second k f s) Γ p y = y
later_over l (first₃ k f u v) Γ p y = y
later_over l (second₃ k f r v) Γ (s, _) y = later_second l k f Γ s y
later_over l (third₃ k f r u) Γ p y = y

pub later_inside : (l : ℕ) (Γ : Env) (C : Context) → Evaluation l C → Later Γ → Later (binders_at l Γ C)
unfolding binders_at Evaluation
later_inside l Γ [] h y = y
later_inside l Γ (F ∷ C) (p, h) y = later_over (level_at l C) F (binders_at l Γ C) p (later_inside l Γ C h y)

-- What fills the hole of a term that keeps the rules keeps them.
typed_in : (types : Table) (l : ℕ) (Γ : Env) (F : Frame) (t : Term) → Typed types Γ l (fill F t) → Typed types (over_hole l F Γ) (hole_level F l) t
unfolding Typed
typed_in types l Γ (only k f) t (_, h) = h
typed_in types l Γ (first k f u) t (_, h, _) = h
typed_in types l Γ (second k f s) t (_, _, h) = h
typed_in types l Γ (first₃ k f u v) t (_, h, _, _) = h
typed_in types l Γ (second₃ k f s v) t (_, _, h, _) = h
typed_in types l Γ (third₃ k f s u) t (_, _, _, h) = h

pub typed_inside : (types : Table) (l : ℕ) (Γ : Env) (C : Context) (t : Term) → Typed types Γ l (plug C t) → Typed types (binders_at l Γ C) (level_at l C) t
unfolding plug level_at binders_at
typed_inside types l Γ [] t h = h
typed_inside types l Γ (F ∷ C) t h = typed_in types (level_at l C) (binders_at l Γ C) F t (typed_inside types l Γ C (fill F t) h)

-- A record binds two variables at most, so that the hole's binders and twice the records in it are no more than those of the whole term.
bounded_in : (l : ℕ) (Γ : Env) (F : Frame) (t : Term) → length (over_hole l F Γ) + 2 * size t ≤ length Γ + 2 * size (fill F t)
unfolding size
bounded_in l Γ (only k f) t = omega (arith, under_length l (binds₁ k f) Γ, binds_one k f)
bounded_in l Γ (first k f u) t = omega arith
bounded_in l Γ (second k f s) t = omega arith
bounded_in l Γ (first₃ k f u v) t = omega arith
bounded_in l Γ (second₃ k f s v) t = omega (arith, under_length 0 (binds₃ k f) Γ, binds_two k f)
bounded_in l Γ (third₃ k f s u) t = omega arith

pub bounded_inside : (l : ℕ) (Γ : Env) (C : Context) (t : Term) → length (binders_at l Γ C) + 2 * size t ≤ length Γ + 2 * size (plug C t)
unfolding plug binders_at
bounded_inside l Γ [] t = omega arith
bounded_inside l Γ (F ∷ C) t = omega (arith, bounded_in (level_at l C) (binders_at l Γ C) F t, bounded_inside l Γ C (fill F t))
