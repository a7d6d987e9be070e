-- The stack of binders: how many there are, what a write at the depth does to them, and which are left at a smaller depth.
use Prim.Native.Nat.{ℕ, zero, suc, ◌+◌, ◌-◌, ◌≤◌, ◌<◌}
use native.Mathlib.Omega.{arith}
use native.Mathlib.Numerals.{add-one}
use mathlib.Core.Path.{◌≡◌, refl, ap, ap₂, ◌∙◌}
use mathlib.Core.List.{List, [], ◌∷◌, ◌++◌}
use lib.ListN.{length, set, drop, length-append}
use lib.Seq.{get_or-set_same, get_or-set_other}
use Rattle.std.proofs.Common.{length-set}
use Rattle.std.proofs.Math.Seq.{drop-append_seam}
use Rattle.rules.specs.Typing.{Env, bind}
use Rattle.judging.specs.declared.Binder.{Binder as Held}
use Rattle.judging.specs.declared.Binders.{Binders}
use Rattle.judging.specs.Stack.{binder_meant, no_binder, stack, binders_of, capacity, outermost, Rebinds}

pub stack_length : (bs : List Held) (d : ℕ) → length (stack bs d) ≡ d
unfolding stack
stack_length bs zero = refl
stack_length bs (suc d) = ap suc (stack_length bs d)

pub depth_is : (b : Binders) → length (binders_of b) ≡ b.depth
depth_is b = stack_length b.slots.now b.depth

-- A write at a depth or above it.
stack_set : (bs : List Held) (d i : ℕ) (v : Held) → d ≤ i → stack (set bs i v) d ≡ stack bs d
unfolding stack
stack_set bs zero i v h = refl
stack_set bs (suc d) i v h = ap₂ ◌∷◌ (ap binder_meant (get_or-set_other bs i d v no_binder (omega arith))) (stack_set bs d i v (omega arith))

pub stack_push : (bs : List Held) (d : ℕ) (v : Held) → d < length bs → stack (set bs d v) (d + 1) ≡ binder_meant v ∷ stack bs d
unfolding stack
stack_push bs d v h = rw (add-one d) (ap₂ ◌∷◌ (ap binder_meant (get_or-set_same bs d v no_binder h)) (stack_set bs d d v (omega arith)))

-- Below a smaller depth are the outermost ones.
stack_drop : (bs : List Held) (d k : ℕ) → stack bs d ≡ drop k (stack bs (k + d))
unfolding stack
stack_drop bs d zero = let e : d ≡ 0 + d = omega arith in ap (stack bs) e
stack_drop bs d (suc k) = let e : suc (k + d) ≡ suc k + d = omega arith in stack_drop bs d k ∙ ap (λ n. drop (suc k) (stack bs n)) e

pub stack_outermost : (bs : List Held) (d e : ℕ) → d ≤ e → stack bs d ≡ outermost d (stack bs e)
unfolding outermost
stack_outermost bs d e h =
    let all : (e - d) + d ≡ e = omega arith in
    rw (stack_length bs e) (stack_drop bs d (e - d) ∙ ap (λ n. drop (e - d) (stack bs n)) all)

-- Where more were bound inside Γ, the outermost ones, as many as Γ has, are Γ.
pub outermost_inside : (Δ Γ : Env) → outermost (length Γ) (Δ ++ Γ) ≡ Γ
unfolding outermost
outermost_inside Δ Γ = let q : length (Δ ++ Γ) - length Γ ≡ length Δ = omega (arith, length-append Δ Γ) in rw q (drop-append_seam Δ Γ)

-- No binders, one more, and the outermost ones alone.
pub none_bound : (bs : List Held) → stack bs 0 ≡ []
unfolding stack
none_bound bs = refl

pub binds_one : (b b' : Binders) (l t : ℕ) → length (binders_of b) < capacity b → b'.slots.now ≡ set b.slots.now b.depth (record { level = l; ty = t }) → b'.depth ≡ b.depth + 1
    → Rebinds b b' (bind l t ∷ binders_of b)
binds_one b b' l t h e d = record {
  are = rw (e, d) (stack_push b.slots.now b.depth (record { level = l; ty = t }) (omega (arith, depth_is b)));
  room = ap length e ∙ simp length-set;
}

pub binds_outermost : (b : Binders) (n : ℕ) → n ≤ length (binders_of b) → Rebinds b (record { slots = b.slots; depth = n }) (outermost n (binders_of b))
binds_outermost b n h = record { are = stack_outermost b.slots.now n b.depth (omega (arith, depth_is b)); room = refl }
