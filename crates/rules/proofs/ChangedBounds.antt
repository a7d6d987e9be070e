-- What shifting, raising, wrapping and replacing make of the free bound of a tree.
use Prim.Native.Nat.{ℕ, zero, suc, ◌+◌, ◌-◌, ◌≤◌, ◌<◌, max}
use native.Mathlib.Omega.{arith}
use native.Mathlib.Nat.{zero-add}
use native.Mathlib.Decide.{dec_lt}
use mathlib.Core.List.{List, [], ◌∷◌}
use mathlib.Core.Logic.{◌⊎◌, inl, inr, ⊎_elim}
use mathlib.Core.Path.{◌≡◌, refl, ap, ap₂, ◌∙◌}
use lib.Dec.{ltb, eqb}
use lib.ListN.{length, get_or}
use borrow.Author.Tests.{lt-ltb, le-ltb}
use Rattle.rules.specs.Lists.{All}
use Rattle.rules.specs.Kinds.{number, variable, splice, Ternary, match_variable, match_shape, match, ternary₃}
use Rattle.rules.specs.Terms.{Fields, Term, leaf, unary, binary, ternary}
use Rattle.rules.specs.Binders.{binds₁, binds₃}
use Rattle.rules.specs.FreeBounds.{own_bound, free_bound}
use Rattle.rules.specs.Indices.{Change, on_fields, changed, raising, raised, replacing, wrapping}
use Rattle.rules.specs.Shifts.{shifted_index, shifting, OwnIndex, EachIndex, Unnamed}
use Rattle.rules.proofs.General.{picked}
use Rattle.rules.proofs.Moving.{replaced_bound, replaced_removed, replaced_beyond}
use Rattle.rules.proofs.Shifts.{each_index, unnamed, none_removed, raising_shifts}
use Rattle.rules.proofs.FreeBounds.{changed_low, raising_low}

-- The bound of a variable's record, and of one that is wrapped.
variable_bound : (f : Fields) → free_bound (leaf variable f) ≡ f.a + 1
unfolding free_bound
variable_bound f = omega arith

splice_bound : (g f : Fields) → free_bound (unary splice g (leaf variable f)) ≡ f.a + 1
unfolding free_bound
splice_bound g f = omega arith

-- What a match binds doesn't turn on the index of kind 10.
binds_kept : (c : Change) (d : ℕ) (k : Ternary) (f : Fields) → length (binds₃ k (on_fields c d k f)) ≡ length (binds₃ k f)
binds_kept c d (match match_variable) f = refl
binds_kept c d (match (match_shape k)) f = refl

-- R d b b': under d binders a bound b becomes b'. Where this is so of each index that P holds of, and goes from children to their record, it is so
-- of each tree whose indices P holds of.
record Follows (c : Change) (P : ℕ → ℕ → Type 0) (R : ℕ → ℕ → ℕ → Type 0) : Type 0 where
  variables : (d : ℕ) (f : Fields) → P d f.a → R d (f.a + 1) (free_bound (c.on_variable d f))
  indices : (d i : ℕ) → P d i → R d (i + 1) (c.on_index d i + 1)
  none : (d : ℕ) → R d 0 0
  joined : (d a a' b b' : ℕ) → R d a a' → R d b b' → R d (max a b) (max a' b')
  under : (d m b b' : ℕ) → R (m + d) b b' → R d (b - m) (b' - m)

module _ (c : Change) (P : ℕ → ℕ → Type 0) (R : ℕ → ℕ → ℕ → Type 0) (h : Follows c P R) where
  own_follows : (d : ℕ) (k : Ternary) (f : Fields) → OwnIndex P d k f → R d (own_bound (ternary₃ k) f) (own_bound (ternary₃ k) (on_fields c d k f))
  own_follows d (match match_variable) f p = h.indices d f.a p
  own_follows d (match (match_shape k)) f p = h.none d

  root_follows : (d m n : ℕ) {o o' x x' y y' z z' : ℕ} → R d o o' → R (m + d) x x' → R (n + d) y y' → R d z z'
      → R d (max o (max (x - m) (max (y - n) z))) (max o' (max (x' - m) (max (y' - n) z')))
  root_follows d m n p q r s = h.joined d _ _ _ _ p (h.joined d _ _ _ _ (h.under d m _ _ q) (h.joined d _ _ _ _ (h.under d n _ _ r) s))

  bound_follows : (d : ℕ) (t : Term) → EachIndex P d t → R d (free_bound t) (free_bound (changed c d t))
  unfolding changed free_bound EachIndex
  bound_follows d (leaf number f) p = root_follows d 0 0 (h.none d) (h.none (0 + d)) (h.none (0 + d)) (h.none d)
  bound_follows d (leaf variable f) p = rw variable_bound (h.variables d f p)
  bound_follows d (unary k f t) p = root_follows d (length (binds₁ k f)) 0 (h.none d) (bound_follows (length (binds₁ k f) + d) t p) (h.none (0 + d)) (h.none d)
  bound_follows d (binary k f t u) (p, q) = root_follows d 0 0 (h.none d) (rw zero-add (bound_follows d t p)) (rw zero-add (bound_follows d u q)) (h.none d)
  bound_follows d (ternary k f t s e) (o, p, q, r) = rw (binds_kept c d k f)
      (root_follows d 0 (length (binds₃ k f)) (own_follows d k f o) (rw zero-add (bound_follows d t p)) (bound_follows (length (binds₃ k f) + d) s q) (bound_follows d e r))

-- A shift of a tree in which no index names a removed binder: a bound of at most d stays, and any other is moved as the indices are.
abbrev ShiftedBound : ℕ → ℕ → ℕ → ℕ → ℕ → Type 0
ShiftedBound down up d b b' = ((b ≤ d) × (b' ≡ b)) ⊎ ((d + down < b) × (b' ≡ b - down + up))

module _ (down up : ℕ) where
  shifted_index_lem : (d i : ℕ) → (i < d) ⊎ (d + down ≤ i) → ShiftedBound down up d (i + 1) (shifted_index down up d i + 1)
  shifted_index_lem d i (inl l) = inl (omega arith, rw (lt-ltb i d l))
  shifted_index_lem d i (inr b) = inr (omega arith, rw (le-ltb i d (omega arith)) (omega arith))

  shifted_joined : (d a a' b b' : ℕ) → ShiftedBound down up d a a' → ShiftedBound down up d b b' → ShiftedBound down up d (max a b) (max a' b')
  shifted_joined d a a' b b' (inl (p, q)) (inl (r, s)) = inl (omega arith, omega arith)
  shifted_joined d a a' b b' (inl (p, q)) (inr (r, s)) = inr (omega arith, omega arith)
  shifted_joined d a a' b b' (inr (p, q)) (inl (r, s)) = inr (omega arith, omega arith)
  shifted_joined d a a' b b' (inr (p, q)) (inr (r, s)) = inr (omega arith, omega arith)

  shifted_under : (d m b b' : ℕ) → ShiftedBound down up (m + d) b b' → ShiftedBound down up d (b - m) (b' - m)
  shifted_under d m b b' (inl (p, q)) = inl (omega arith, omega arith)
  shifted_under d m b b' (inr (p, q)) = inr (omega arith, omega arith)

  shifted_bound : (d : ℕ) (t : Term) → Unnamed down d t → ShiftedBound down up d (free_bound t) (free_bound (changed (shifting down up) d t))
  shifted_bound d t = bound_follows (shifting down up) _ (ShiftedBound down up) (record {
    variables = λ d f p. rw variable_bound (shifted_index_lem d f.a (unnamed down d f.a p));
    indices = λ d i p. shifted_index_lem d i (unnamed down d i p);
    none = λ d. inl (omega arith, refl);
    joined = shifted_joined;
    under = shifted_under;
  }) d t

  -- Such a tree has a bound of at most d, which leaves it as it is (theorem `changed_low`), or one beyond the removed binders, which is moved.
  pub bound_shifted : (d : ℕ) (t : Term) → Unnamed down d t → d < free_bound t → (d + down < free_bound t) × (free_bound (changed (shifting down up) d t) ≡ free_bound t - down + up)
  bound_shifted d t h l = ⊎_elim (λ (p, q). absurd (omega arith)) (λ x. x) (shifted_bound d t h)

-- Raising by n moves it up by n, and never by more.
pub bound_raised : (n d : ℕ) (t : Term) → d < free_bound t → free_bound (changed (raising n) d t) ≡ free_bound t + n
bound_raised n d t l = let (p, q) = bound_shifted 0 n d t (none_removed d t) l in ap free_bound (raising_shifts n d t) ∙ (omega arith)

pub raised_most : (n d : ℕ) (t : Term) → free_bound (changed (raising n) d t) ≤ free_bound t + n
raised_most n d t = elim (dec_lt d (free_bound t)) [
  | yes l ↦ omega (arith, bound_raised n d t l)
  | no l ↦ rw (changed_low (raising n) (raising_low n) d t (omega arith)) (omega arith)
]

-- Wrapping keeps the bound.
pub bound_wrapped : (code d : ℕ) (t : Term) → free_bound (changed (wrapping code) d t) ≡ free_bound t
bound_wrapped code d t = bound_follows (wrapping code) (λ _ _. Unit {0}) (λ _ b b'. b' ≡ b) (record {
  variables = λ d f _. picked (λ t. free_bound t ≡ f.a + 1) (eqb f.a d) (λ _. splice_bound _ _) (λ _. variable_bound f);
  indices = λ d i _. refl;
  none = λ d. refl;
  joined = λ d a a' b b' p q. ap₂ max p q;
  under = λ d m b b' p. ap (λ x. x - m) p;
}) d t (each_index _ (λ _ _. tt) d t)

-- What holds of each element holds of the one at a place.
all_at : {A : Type 0} (P : A → Type 0) (xs : List A) (j : ℕ) (z : A) → All P xs → j < length xs → P (get_or xs j z)
all_at P [] j z h l = absurd (omega arith)
all_at P (x ∷ xs) zero z h l = h.0
all_at P (x ∷ xs) (suc j) z h l = all_at P xs j z h.1 (omega arith)

-- Replacing by trees whose bounds are at most b: the bound is at most the tree's own, or d more than b.
module _ (ts : List Term) (b : ℕ) (few : All (λ t. free_bound t ≤ b) ts) where
  replacement_most : (d : ℕ) (f : Fields) → free_bound ((replacing ts).on_variable d f) ≤ max (f.a + 1) (b + d)
  unfolding raised
  replacement_most d f = elim (dec_lt f.a d) [
    | yes l ↦ rw (replaced_bound ts d f l, variable_bound) (omega arith)
    | no n ↦ elim (dec_lt f.a (d + length ts)) [
      | yes l ↦
          let x = get_or ts (f.a - d) (leaf variable f) in
          rw (replaced_removed ts d f (omega arith) l) (omega (arith, raised_most d 0 x, all_at (λ t. free_bound t ≤ b) ts (f.a - d) (leaf variable f) few (omega arith)))
      | no k ↦ rw (replaced_beyond ts d f (omega arith), variable_bound) (omega arith)
    ]
  ]

  pub bound_replaced : (d : ℕ) (t : Term) → free_bound (changed (replacing ts) d t) ≤ max (free_bound t) (b + d)
  bound_replaced d t = bound_follows (replacing ts) (λ _ _. Unit {0}) (λ d x x'. x' ≤ max x (b + d)) (record {
    variables = λ d f _. replacement_most d f;
    indices = λ d i _. picked (λ j. j + 1 ≤ max (i + 1) (b + d)) (ltb i d) (λ _. omega arith) (λ _. omega arith);
    none = λ d. omega arith;
    joined = λ d a a' x x' p q. omega arith;
    under = λ d m x x' p. omega arith;
  }) d t (each_index _ (λ _ _. tt) d t)
