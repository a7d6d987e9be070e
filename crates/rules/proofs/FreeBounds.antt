-- The free bound of a tree: a change that moves free indices only leaves a tree with a low bound as it is, and the bound of a typed tree is low.
use Prim.Native.Nat.{ℕ, ◌+◌, ◌-◌, ◌≤◌, ◌<◌, max}
use native.Mathlib.Omega.{arith}
use native.Mathlib.Nat.{zero-add}
use mathlib.Core.List.{List}
use mathlib.Core.Path.{◌≡◌, refl, ap, ap₂}
use lib.ListN.{length}
use borrow.Author.Tests.{lt-ltb, ne_eqb}
use Rattle.rules.specs.Kinds.{number, variable, Unary, Binary, Ternary, match_variable, match_shape, match, ternary₃}
use Rattle.rules.specs.Terms.{Fields, Term, leaf, unary, binary, ternary}
use Rattle.rules.specs.Binders.{binds₁, binds₃}
use Rattle.rules.specs.FreeBounds.{own_bound, free_bound}
use Rattle.rules.specs.Indices.{Change, with_index, on_fields, changed, raising, replacing, replaced, wrapping}
use Rattle.rules.specs.Types.{Table}
use Rattle.rules.specs.Typing.{Env, Typed}
use Rattle.rules.proofs.Written.{under_length}
use Rattle.rules.proofs.Moving.{raised_bound, replaced_bound}

-- A change that leaves each index below d binders as it is.
pub record KeepsLow (c : Change) : Type 0 where
  pub on_variable : (d : ℕ) (f : Fields) → f.a < d → c.on_variable d f ≡ leaf variable f
  pub on_index : (d i : ℕ) → i < d → c.on_index d i ≡ i

fields_low : (c : Change) → KeepsLow c → (d : ℕ) (k : Ternary) (f : Fields) → own_bound (ternary₃ k) f ≤ d → on_fields c d k f ≡ f
fields_low c h d (match match_variable) f b = ap (with_index f) (h.on_index d f.a (omega arith))
fields_low c h d (match (match_shape k)) f b = refl

-- The bound of a record is at most d where each of its parts is, and no part is beyond it.
module _ (o x m y n z d : ℕ) where
  root_most : o ≤ d → x ≤ m + d → y ≤ n + d → z ≤ d → max o (max (x - m) (max (y - n) z)) ≤ d
  root_most p q r s = omega arith

  parts_most : max o (max (x - m) (max (y - n) z)) ≤ d → (o ≤ d) × (x ≤ m + d) × (y ≤ n + d) × (z ≤ d)
  parts_most b = (omega arith, omega arith, omega arith, omega arith)

module _ (d : ℕ) where
  pub variable_low : (f : Fields) → free_bound (leaf variable f) ≤ d → f.a < d
  unfolding free_bound
  variable_low f b = omega arith

  pub child_low : (k : Unary) (f : Fields) (t : Term) → free_bound (unary k f t) ≤ d → free_bound t ≤ length (binds₁ k f) + d
  unfolding free_bound
  child_low k f t b = let (_, p, _, _) = parts_most 0 (free_bound t) (length (binds₁ k f)) 0 0 0 d b in p

  pub both_low : (k : Binary) (f : Fields) (t u : Term) → free_bound (binary k f t u) ≤ d → (free_bound t ≤ d) × (free_bound u ≤ d)
  unfolding free_bound
  both_low k f t u b = let (_, p, q, _) = rw zero-add at (parts_most 0 (free_bound t) 0 (free_bound u) 0 0 d b) in (p, q)

  pub parts_low : (k : Ternary) (f : Fields) (t s e : Term) → free_bound (ternary k f t s e) ≤ d
      → (own_bound (ternary₃ k) f ≤ d) × (free_bound t ≤ d) × (free_bound s ≤ length (binds₃ k f) + d) × (free_bound e ≤ d)
  unfolding free_bound
  parts_low k f t s e b = rw zero-add at (parts_most (own_bound (ternary₃ k) f) (free_bound t) 0 (free_bound s) (length (binds₃ k f)) (free_bound e) d b)

-- Such a change leaves a tree as it is whose bound is at most d.
pub changed_low : (c : Change) → KeepsLow c → (d : ℕ) (t : Term) → free_bound t ≤ d → changed c d t ≡ t
unfolding changed
changed_low c h d (leaf number f) b = refl
changed_low c h d (leaf variable f) b = h.on_variable d f (variable_low d f b)
changed_low c h d (unary k f t) b = ap (unary k f) (changed_low c h (length (binds₁ k f) + d) t (child_low d k f t b))
changed_low c h d (binary k f t u) b = let (p, q) = both_low d k f t u b in ap₂ (binary k f) (changed_low c h d t p) (changed_low c h d u q)
changed_low c h d (ternary k f t s e) b =
    let (o, p, q, r) = parts_low d k f t s e b in
    rw (fields_low c h d k f o, changed_low c h d t p, changed_low c h (length (binds₃ k f) + d) s q, changed_low c h d e r)

-- Raising, replacing and wrapping are such changes.
pub raising_low : (n : ℕ) → KeepsLow (raising n)
raising_low n = record { on_variable = λ d f l. rw (lt-ltb f.a d l); on_index = λ d i l. raised_bound n d i l }

pub replacing_low : (ts : List Term) → KeepsLow (replacing ts)
replacing_low ts = record { on_variable = λ d f l. replaced_bound ts d f l; on_index = λ d i l. rw (lt-ltb i d l) }

pub wrapping_low : (code : ℕ) → KeepsLow (wrapping code)
wrapping_low code = record { on_variable = λ d f l. rw (ne_eqb f.a d (λ e. omega arith)); on_index = λ d i l. refl }

-- A closed tree is left as it is.
pub replaced_closed : (ts : List Term) (t : Term) → free_bound t ≡ 0 → replaced ts t ≡ t
unfolding replaced
replaced_closed ts t b = changed_low (replacing ts) (replacing_low ts) 0 t (omega arith)

-- "10: index not below its binders": a typed tree's bound is at most its binders.
pub typed_bound : (types : Table) (Γ : Env) (l : ℕ) (t : Term) → Typed types Γ l t → free_bound t ≤ length Γ
unfolding Typed free_bound
typed_bound types Γ l (leaf number f) h = omega arith
typed_bound types Γ l (leaf variable f) (_, (i, _), _, _) = omega arith
typed_bound types Γ l (unary k f t) (_, h) =
    root_most 0 (free_bound t) (length (binds₁ k f)) 0 0 0 (length Γ) (omega arith) (rw (← under_length l (binds₁ k f) Γ) (typed_bound types _ _ t h)) (omega arith) (omega arith)
typed_bound types Γ l (binary k f t u) (_, h, j) =
    root_most 0 (free_bound t) 0 (free_bound u) 0 0 (length Γ) (omega arith) (rw zero-add (typed_bound types _ _ t h)) (rw zero-add (typed_bound types _ _ u j)) (omega arith)
typed_bound types Γ l (ternary (match match_variable) f t s e) ((_, (i, _), _, _), h, j, m) =
    root_most (f.a + 1) (free_bound t) 0 (free_bound s) 0 (free_bound e) (length Γ) (omega arith) (rw zero-add (typed_bound types _ _ t h)) (rw zero-add (typed_bound types _ _ s j)) (typed_bound types _ _ e m)
typed_bound types Γ l (ternary (match (match_shape k)) f t s e) (_, h, j, m) =
    let n = binds₃ (match (match_shape k)) f in
    root_most 0 (free_bound t) 0 (free_bound s) (length n) (free_bound e) (length Γ) (omega arith) (rw zero-add (typed_bound types _ _ t h)) (rw (← under_length 0 n Γ) (typed_bound types _ _ s j)) (typed_bound types _ _ e m)
