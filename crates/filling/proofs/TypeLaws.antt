-- The types of trees by their places: those of a record's children stand after its own.
use Prim.Native.Nat.{ℕ, zero, suc, ◌-◌, ◌≤◌, ◌<◌}
use native.Mathlib.Omega.{arith}
use mathlib.Core.List.{List, [], ◌∷◌, ◌++◌, append_assoc, append-nil}
use mathlib.Core.Path.{◌≡◌, refl, ap, sym, ◌∙◌}
use lib.ListN.{length, get_or, set, take, length-set}
use lib.Seq.{length-take-le, take-suc, set-append_seam, take-set-lt}
use Rattle.rules.specs.Kinds.{Kind, leaf₀, unary₁, binary₂, ternary₃}
use Rattle.rules.specs.Terms.{Fields, Term}
use Rattle.rules.specs.Conditions.{Holds}
use Rattle.rules.specs.Links.{node}
use Rattle.rules.specs.Check.{children}
use Rattle.inference.specs.Inference.{types_of}
use Rattle.filling.specs.Filling.{firsts, types_at}

pub types_there : (n : ℕ) (t : Term) → 0 < n → types_at n t ≡ types_of t
unfolding types_at
types_there zero t h = absurd (omega arith)
types_there (suc n) t h = refl

types_gone : (n : ℕ) (t : Term) → n ≡ 0 → types_at n t ≡ []
unfolding types_at
types_gone n t e = rw e

none_after : (m n : ℕ) → (0 < n → 0 < m) → m ≡ 0 → n ≡ 0
none_after m zero i e = refl
none_after m (suc n) i e = absurd (omega (arith, i (omega arith)))

-- A record's type, then those of the children that its kind has.
pub types_node : (k : Kind) (f : Fields) (tc ts te : Term) (c s e x : ℕ) → Holds (children k c s e x) → (0 < s → 0 < c) → (0 < e → 0 < s)
    → types_of (node k f tc ts te) ≡ f.type ∷ (types_at c tc ++ (types_at s ts ++ types_at e te))
unfolding types_of
types_node (leaf₀ k) f tc ts te c s e x (h, _) p q =
    let z = none_after c s p h in
    rw (types_gone c tc h, types_gone s ts z, types_gone e te (none_after s e q z)) refl
types_node (unary₁ k) f tc ts te c s e x (h, (z, _)) p q =
    rw (types_there c tc h, types_gone s ts z, types_gone e te (none_after s e q z)) (ap (λ l. f.type ∷ l) (sym (append-nil (types_of tc))))
types_node (binary₂ k) f tc ts te c s e x (h, (i, (z, _))) p q =
    rw (types_there c tc h, types_there s ts i, types_gone e te z) (ap (λ l. f.type ∷ (types_of tc ++ l)) (sym (append-nil (types_of ts))))
types_node (ternary₃ k) f tc ts te c s e x (h, (i, (j, _))) p q = rw (types_there c tc h, types_there s ts i, types_there e te j) refl

-- No child has no types.
pub firsts_none : (gs : List ℕ) (left n : ℕ) (t : Term) → n ≡ 0 → firsts gs left ≡ firsts gs left ++ types_at n t
firsts_none gs left n t e = rw (types_gone n t e) (sym (append-nil (firsts gs left)))

-- The type of a record is put before those of its children.
pub firsts_own : (gs gs₃ us : List ℕ) (left q ty : ℕ) → length gs₃ ≡ length gs → 1 ≤ left → left ≤ length gs → q < left → firsts gs₃ q ≡ firsts gs (left - 1) ++ us
    → firsts (set gs₃ (length gs₃ - left) ty) q ≡ firsts gs left ++ (ty ∷ us)
unfolding firsts
firsts_own gs gs₃ us left q ty same some most less h =
    let at = length gs - left in
    let front = take at gs in
    let long : length front ≡ at = length-take-le at gs (omega arith) in
    let here : length gs₃ - left ≡ at = omega (arith, same) in
    let next : length gs - (left - 1) ≡ suc at = omega arith in
    let split : take (length gs - (left - 1)) gs ≡ front ++ (get_or gs at 0 ∷ []) = rw next (take-suc gs at 0 (omega arith)) in
    rw (length-set gs₃ (length gs₃ - left) ty)
    (take-set-lt (length gs₃ - q) gs₃ (length gs₃ - left) ty (omega (arith, same))
    ∙ ap (λ l. set l (length gs₃ - left) ty) (h ∙ ap (λ l. l ++ us) split ∙ append_assoc front (get_or gs at 0 ∷ []) us)
    ∙ ap (λ i. set (front ++ (get_or gs at 0 ∷ us)) i ty) (here ∙ sym long)
    ∙ set-append_seam front (get_or gs at 0) us ty)

-- The children's types one after another.
pub firsts_three : (p g₁ g₂ g₃ xs ys zs : List ℕ) → g₁ ≡ p ++ xs → g₂ ≡ g₁ ++ ys → g₃ ≡ g₂ ++ zs → g₃ ≡ p ++ (xs ++ (ys ++ zs))
firsts_three p g₁ g₂ g₃ xs ys zs h₁ h₂ h₃ = h₃ ∙ ap (λ l. l ++ zs) (h₂ ∙ ap (λ l. l ++ ys) h₁) ∙ simp append_assoc
