-- Raising is shifting, and so is a replacement in which no variable gives way; shifting keeps the form of a tree, and by nothing all of it.
use Prim.Native.Nat.{ℕ, ◌+◌, ◌-◌, ◌≤◌, ◌<◌}
use native.Mathlib.Omega.{arith}
use native.Mathlib.Nat.{add-zero, sub-zero}
use native.Mathlib.Decide.{dec_lt}
use mathlib.Core.List.{List}
use mathlib.Core.Bool.{not}
use mathlib.Core.Logic.{◌⊎◌, inl, inr}
use mathlib.Core.Path.{◌≡◌, refl, ap, ap₂, ◌∙◌}
use lib.Dec.{T, T_not}
use lib.ListN.{length}
use borrow.Author.Tests.{lt-ltb, le-ltb}
use Rattle.rules.specs.Kinds.{number, variable, Ternary, match_variable, match_shape, match}
use Rattle.rules.specs.Terms.{Fields, Term, leaf, unary, binary, ternary, size}
use Rattle.rules.specs.Binders.{binds₁, binds₃}
use Rattle.rules.specs.Indices.{Change, with_index, on_fields, changed, raising, raised, lowered_index, replacing, names_removed, summed, gives, gave_way}
use Rattle.rules.specs.Values.{plain}
use Rattle.rules.specs.Shifts.{shifted_index, shifting, OwnIndex, EachIndex, Unnamed}
use Rattle.rules.proofs.General.{picked}
use Rattle.rules.proofs.Moving.{replaced_bound, replaced_beyond}

-- What holds of every index holds of each of a tree.
own_index : (P : ℕ → ℕ → Type 0) → ((d i : ℕ) → P d i) → (d : ℕ) (k : Ternary) (f : Fields) → OwnIndex P d k f
own_index P h d (match match_variable) f = h d f.a
own_index P h d (match (match_shape k)) f = tt

pub each_index : (P : ℕ → ℕ → Type 0) → ((d i : ℕ) → P d i) → (d : ℕ) (t : Term) → EachIndex P d t
unfolding EachIndex
each_index P h d (leaf number f) = tt
each_index P h d (leaf variable f) = h d f.a
each_index P h d (unary k f t) = each_index P h (length (binds₁ k f) + d) t
each_index P h d (binary k f t u) = (each_index P h d t, each_index P h d u)
each_index P h d (ternary k f t s e) = (own_index P h d k f, each_index P h d t, each_index P h (length (binds₃ k f) + d) s, each_index P h d e)

-- An index that names no removed binder is below them or beyond.
pub unnamed : (m d i : ℕ) → T (not (names_removed m d i)) → (i < d) ⊎ (d + m ≤ i)
unnamed m d i h = elim (dec_lt i d) [
  | yes l ↦ inl l
  | no n ↦ elim (dec_lt i (d + m)) [
    | yes l ↦ absurd (rw (le-ltb i d (omega arith), lt-ltb i (d + m) l) at h)
    | no k ↦ inr (omega arith)
  ]
]

-- Where no binder is removed, none is named.
pub none_removed : (d : ℕ) (t : Term) → Unnamed 0 d t
none_removed d t = each_index _ none d t
  where
    none : (d i : ℕ) → T (not (names_removed 0 d i))
    none d i = elim (dec_lt i d) [
      | yes l ↦ rw (lt-ltb i d l) tt
      | no n ↦ rw (le-ltb i d (omega arith), le-ltb i (d + 0) (omega arith)) tt
    ]

-- Two changes that do the same to each index of a tree make the same of it.
module _ (c c' : Change) (P : ℕ → ℕ → Type 0) (variables : (d : ℕ) (f : Fields) → P d f.a → c.on_variable d f ≡ c'.on_variable d f)
    (indices : (d i : ℕ) → P d i → c.on_index d i ≡ c'.on_index d i) where
  same_fields : (d : ℕ) (k : Ternary) (f : Fields) → OwnIndex P d k f → on_fields c d k f ≡ on_fields c' d k f
  same_fields d (match match_variable) f h = ap (with_index f) (indices d f.a h)
  same_fields d (match (match_shape k)) f h = refl

  pub changed_same : (d : ℕ) (t : Term) → EachIndex P d t → changed c d t ≡ changed c' d t
  unfolding changed EachIndex
  changed_same d (leaf number f) h = refl
  changed_same d (leaf variable f) h = variables d f h
  changed_same d (unary k f t) h = ap (unary k f) (changed_same (length (binds₁ k f) + d) t h)
  changed_same d (binary k f t u) (h, i) = ap₂ (binary k f) (changed_same d t h) (changed_same d u i)
  changed_same d (ternary k f t s e) (o, h, i, j) =
      rw (same_fields d k f o, changed_same d t h, changed_same (length (binds₃ k f) + d) s i, changed_same d e j)

-- Raising by n removes no binder and puts n there.
pub raising_shifts : (n d : ℕ) (t : Term) → changed (raising n) d t ≡ changed (shifting 0 n) d t
raising_shifts n d t = changed_same (raising n) (shifting 0 n) (λ _ _. Unit {0}) (λ d f _. rw (sub-zero f.a)) (λ d i _. rw (sub-zero i)) d t (each_index _ (λ _ _. tt) d t)

-- Replacing the variables of binders that no index names removes the binders.
pub replacing_shifts : (ts : List Term) (d : ℕ) (t : Term) → Unnamed (length ts) d t → changed (replacing ts) d t ≡ changed (shifting (length ts) 0) d t
replacing_shifts ts d t = changed_same (replacing ts) (shifting (length ts) 0) _
    (λ d f h. rw (add-zero (f.a - length ts)) (go d f (unnamed (length ts) d f.a h))) (λ d i h. rw (add-zero (i - length ts))) d t
  where
    go : (d : ℕ) (f : Fields) → (f.a < d) ⊎ (d + length ts ≤ f.a) → (replacing ts).on_variable d f ≡ leaf variable (with_index f (lowered_index (length ts) d f.a))
    go d f (inl l) = replaced_bound ts d f l ∙ (rw (lt-ltb f.a d l))
    go d f (inr b) = replaced_beyond ts d f b ∙ (rw (le-ltb f.a d (omega arith)))

-- Then no variable gives way.
none_summed : (m d : ℕ) (t : Term) → Unnamed m d t → summed (gives m) 0 d t ≡ 0
unfolding EachIndex summed
none_summed m d (leaf number f) h = refl
none_summed m d (leaf variable f) h = picked (λ (n : ℕ). n ≡ 0) (names_removed m d f.a) (λ y. absurd (T_not (names_removed m d f.a) h y)) (λ _. refl)
none_summed m d (unary k f t) h = omega (arith, none_summed m (length (binds₁ k f) + d) t h)
none_summed m d (binary k f t u) (h, i) = omega (arith, none_summed m d t h, none_summed m d u i)
none_summed m d (ternary k f t s e) (_, h, i, j) = omega (arith, none_summed m d t h, none_summed m (length (binds₃ k f) + d) s i, none_summed m d e j)

pub none_gives_way : (m d : ℕ) (t : Term) → Unnamed m d t → gave_way m d t ≡ 0
unfolding gave_way
none_gives_way m d t h = none_summed m d t h

-- Shifting changes neither the size of a tree nor whether it is plain.
module _ (down up : ℕ) where
  pub size_shifted : (d : ℕ) (t : Term) → size (changed (shifting down up) d t) ≡ size t
  unfolding changed size
  size_shifted d (leaf number f) = refl
  size_shifted d (leaf variable f) = refl
  size_shifted d (unary k f t) = omega (arith, size_shifted (length (binds₁ k f) + d) t)
  size_shifted d (binary k f t u) = omega (arith, size_shifted d t, size_shifted d u)
  size_shifted d (ternary k f t s e) = omega (arith, size_shifted d t, size_shifted (length (binds₃ k f) + d) s, size_shifted d e)

  pub plain_shifted : (d : ℕ) (t : Term) → plain (changed (shifting down up) d t) ≡ plain t
  unfolding changed plain
  plain_shifted d (leaf number f) = refl
  plain_shifted d (leaf variable f) = refl
  plain_shifted d (unary k f t) = rw (plain_shifted (length (binds₁ k f) + d) t)
  plain_shifted d (binary k f t u) = rw (plain_shifted d t, plain_shifted d u)
  plain_shifted d (ternary k f t s e) = rw (plain_shifted d t, plain_shifted (length (binds₃ k f) + d) s, plain_shifted d e)

-- Where no binder is removed and none is put there, no index moves.
index_stays : (d i : ℕ) → shifted_index 0 0 d i ≡ i
index_stays d i = elim (dec_lt i d) [
  | yes l ↦ rw (lt-ltb i d l)
  | no l ↦ rw (le-ltb i d (omega arith), sub-zero i, add-zero i)
]

pub unshifted : (d : ℕ) (t : Term) → changed (shifting 0 0) d t ≡ t
unfolding changed
unshifted d (leaf number f) = refl
unshifted d (leaf variable f) = rw (index_stays d f.a)
unshifted d (unary k f t) = ap (unary k f) (unshifted (length (binds₁ k f) + d) t)
unshifted d (binary k f t u) = ap₂ (binary k f) (unshifted d t) (unshifted d u)
unshifted d (ternary (match match_variable) f t s e) = rw (unshifted d t, unshifted (0 + d) s, unshifted d e, index_stays d f.a)
unshifted d (ternary (match (match_shape k)) f t s e) = rw (unshifted d t, unshifted (length (binds₃ (match (match_shape k)) f) + d) s, unshifted d e)

pub raised_none : (t : Term) → raised 0 t ≡ t
unfolding raised
raised_none t = raising_shifts 0 0 t ∙ unshifted 0 t
