-- A search that finds nothing ends after the tree, and finds nothing in a tree that is done.
use Prim.Native.Nat.{ℕ, ◌+◌}
use mathlib.Core.Path.{◌≡◌, refl, ◌∙◌}
use mathlib.Core.Bool.{Bool, true, false}
use lib.Dec.{T}
use Rattle.rules.specs.Kinds.{unary₁, binary₂, ternary₃}
use Rattle.rules.specs.Terms.{Term, leaf, unary, binary, ternary, root_kind, size}
use Rattle.rules.specs.Typing.{level₁}
use Rattle.rules.specs.Values.{done}
use Rattle.rules.specs.Contractions.{contracts}
use Rattle.rules.specs.Steps.{steps_child}
use Rattle.rules.proofs.General.{is_false, picked}
use Rattle.rules.proofs.Agree.{done_child, done_both, done_three}
use Rattle.contexts.proofs.Moving.{done_stays}
use Rattle.redexes.specs.declared.Found.{Found}
use Rattle.redexes.specs.declared.Found.TheVariants.{Done, Redex}
use Rattle.redexes.specs.Finding.{or_else, searched, root_found, find}

-- Where nothing is found, the end is n.
abbrev pub EndsAt : ℕ → Found → Type 0
EndsAt n (Done e) = e ≡ n
EndsAt n (Redex p) = Unit {0}

root_ends : (l : ℕ) (t : Term) (i : ℕ) → EndsAt (i + size t) (root_found l t i)
root_ends l t i = picked (EndsAt (i + size t)) (contracts l (root_kind t)) (λ _. tt) (λ _. refl)

else_ends : (n : ℕ) (x y : Found) → EndsAt n y → EndsAt n (or_else x y)
unfolding or_else
else_ends n (Done e) y h = h
else_ends n (Redex p) y h = tt

searched_ends : (n : ℕ) (b : Bool) (x y : Found) → EndsAt n y → EndsAt n (searched b x y)
unfolding searched
searched_ends n b x y h = picked (EndsAt n) b (λ _. else_ends n x y h) (λ _. h)

pub ends : (l : ℕ) (t : Term) (i : ℕ) → EndsAt (i + size t) (find l t i)
unfolding find
ends l (leaf k f) i = root_ends l (leaf k f) i
ends l (unary k f t) i = searched_ends _ _ _ _ (root_ends l (unary k f t) i)
ends l (binary k f t u) i = searched_ends _ _ _ _ (searched_ends _ _ _ _ (root_ends l (binary k f t u) i))
ends l (ternary k f t s e) i = searched_ends _ _ _ _ (searched_ends _ _ _ _ (searched_ends _ _ _ _ (root_ends l (ternary k f t s e) i)))

pub done_ends : (l : ℕ) (t : Term) (i e : ℕ) → find l t i ≡ Done e → e ≡ i + size t
done_ends l t i e q = rw q at (ends l t i)

-- What is done is not rewritten.
root_done : (l : ℕ) (t : Term) (i : ℕ) → T (done l t) → root_found l t i ≡ Done (i + size t)
root_done l t i h = let e = is_false (contracts l (root_kind t)) (done_stays l t h) in rw e

-- A child in which nothing is found.
pub searched_done : (b : Bool) (x y : Found) (n : ℕ) → (T b → x ≡ Done n) → searched b x y ≡ y
unfolding searched or_else
searched_done true x y n h = rw (h tt, or_else)
searched_done false x y n h = refl

-- In a tree that is done nothing is found.
pub done_found : (t : Term) (l i : ℕ) → T (done l t) → find l t i ≡ Done (i + size t)
unfolding find
done_found (leaf k f) l i h = root_done l (leaf k f) i h
done_found (unary k f t) l i h =
    searched_done (steps_child l (unary₁ k) 0) _ _ _ (λ s. done_found t (level₁ k l) (i + 1) (done_child l k f t s h)) ∙ root_done l (unary k f t) i h
done_found (binary k f t u) l i h =
    let (p, q) = done_both l k f t u h in
    searched_done (steps_child l (binary₂ k) 0) _ _ _ (λ _. done_found t l (i + 1) p)
    ∙ searched_done (steps_child l (binary₂ k) 1) _ _ _ (λ _. done_found u l (i + 1 + size t) q) ∙ root_done l (binary k f t u) i h
done_found (ternary k f t s e) l i h =
    let (p, q, r) = done_three l k f t s e h in
    searched_done (steps_child l (ternary₃ k) 0) _ _ _ (λ _. done_found t l (i + 1) p)
    ∙ searched_done (steps_child l (ternary₃ k) 1) _ _ _ (λ _. done_found s l (i + 1 + size t) q)
    ∙ searched_done (steps_child l (ternary₃ k) 2) _ _ _ (λ _. done_found e l (i + 1 + size t + size s) r) ∙ root_done l (ternary k f t s e) i h
