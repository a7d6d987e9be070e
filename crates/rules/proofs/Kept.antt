-- A change of a term's variables that keeps each variable's level and type keeps the whole term's.
use Prim.Native.Nat.{ℕ, ◌+◌}
use mathlib.Core.List.{List, ◌++◌, append_assoc}
use mathlib.Core.Path.{◌≡◌, refl, ap, ap₂}
use lib.Dec.{T}
use lib.ListN.{length, length-append, length-map}
use mir.Facts.{and_yes}
use Rattle.rules.specs.Kinds.{number, variable, Ternary, match_variable, match_shape, leaf₀, ternary₃, unary₁, match}
use Rattle.rules.specs.Terms.{Fields, Term, leaf, unary, binary, ternary, type_of}
use Rattle.rules.specs.Binders.{binds₁, binds₃}
use Rattle.rules.specs.Indices.{Change, on_fields, changed}
use Rattle.rules.specs.Types.{Table, part_a}
use Rattle.rules.specs.Conditions.{Holds}
use Rattle.rules.specs.FieldUses.{formed}
use Rattle.rules.specs.Typing.{Env, bind, under, level₁, Typed, bound, placed, typed}
use Rattle.rules.specs.Values.{plain, plain_kind}
use Rattle.rules.proofs.Facts.{Has, Names, named}

-- The index that a match of kind 10 names is kept.
abbrev pub Indices : Change → Env → Env → Type 0
Indices c Γ Γ' = (Γ₁ : Env) (i n : ℕ) → Names (Γ₁ ++ Γ) i (bind 1 n) → Names (Γ₁ ++ Γ') (c.on_index (length Γ₁) i) (bind 1 n)

module _ (types : Table) (c : Change) (Γ Γ' : Env) where
  match_kept : (Γ₁ : Env) (l : ℕ) (k : Ternary) (f : Fields) (n s e : ℕ) → Indices c Γ Γ'
      → Holds (formed types (ternary₃ k) f) → Holds (bound (Γ₁ ++ Γ) (ternary₃ k) f) → Holds (placed (Γ₁ ++ Γ) l (ternary₃ k) f) → Holds (typed types (Γ₁ ++ Γ) (ternary₃ k) f n s e)
      → let g = on_fields c (length Γ₁) k f in (binds₃ k g ≡ binds₃ k f) × (g.type ≡ f.type)
      × Holds (formed types (ternary₃ k) g) × Holds (bound (Γ₁ ++ Γ') (ternary₃ k) g) × Holds (placed (Γ₁ ++ Γ') l (ternary₃ k) g) × Holds (typed types (Γ₁ ++ Γ') (ternary₃ k) g n s e)
  match_kept Γ₁ l (match match_variable) f n s e ix o (p, _) (z, (q, _)) (x, (y, (w, (r, _)))) =
      let (b, i) = ix Γ₁ f.a (part_a types n) (p, ap₂ bind q r) in
      (refl, refl, o, (b, tt), (z, (ap (λ b. b.level) i, tt)), (x, (y, (w, (ap (λ b. b.type) i, tt)))))
  match_kept Γ₁ l (match (match_shape k)) f n s e ix o p q r = (refl, refl, o, p, q, r)

  -- Below the variables that a record binds.
  inside : (Γ₁ : Env) (l m : ℕ) (ns : List ℕ) (t : Term)
      → (Typed types (under l ns Γ₁ ++ Γ) m t → Has types (under l ns Γ₁ ++ Γ') m (type_of t) (changed c (length (under l ns Γ₁)) t))
      → Typed types (under l ns (Γ₁ ++ Γ)) m t → Has types (under l ns (Γ₁ ++ Γ')) m (type_of t) (changed c (length ns + length Γ₁) t)
  inside Γ₁ l m ns t kept h = rw (append_assoc, length-append, length-map) at (kept (rw append_assoc h))

  module _ (variables : (Γ₁ : Env) (l : ℕ) (f : Fields) → Holds (formed types (leaf₀ variable) f) → Names (Γ₁ ++ Γ) f.a (bind l f.type) → Has types (Γ₁ ++ Γ') l f.type (c.on_variable (length Γ₁) f)) where
    pub kept : (Γ₁ : Env) (l : ℕ) (t : Term) → (¬ T (plain t) → Indices c Γ Γ') → Typed types (Γ₁ ++ Γ) l t → Has types (Γ₁ ++ Γ') l (type_of t) (changed c (length Γ₁) t)
    unfolding Typed changed plain
    kept Γ₁ l (leaf number f) ix h = (h, refl)
    kept Γ₁ l (leaf variable f) ix h = variables Γ₁ l f h.0 (named types (Γ₁ ++ Γ) l f h)
    kept Γ₁ l (unary k f t) ix ((o, b, p, q), h) =
        let (h', e) = inside Γ₁ l (level₁ k l) (binds₁ k f) t (kept (under l (binds₁ k f) Γ₁) (level₁ k l) t (λ n. ix (λ p. n (and_yes (plain_kind (unary₁ k)) (plain t) p).1))) h in
        (((o, b, p, rw e q), h'), refl)
    kept Γ₁ l (binary k f t u) ix ((o, b, p, q), h, j) =
        let (h', e) = kept Γ₁ l t (λ n. ix (λ p. n (and_yes (plain t) (plain u) p).0)) h in
        let (j', d) = kept Γ₁ l u (λ n. ix (λ p. n (and_yes (plain t) (plain u) p).1)) j in
        (((o, b, p, rw (e, d) q), h', j'), refl)
    kept Γ₁ l (ternary (match k) f t s e) ix ((o, p, q, r), h, j, m) =
        let (h', d) = kept Γ₁ l t (λ n. ix (λ p. p)) h in
        let (j', d') = inside Γ₁ 0 l (binds₃ (match k) f) s (kept (under 0 (binds₃ (match k) f) Γ₁) l s (λ n. ix (λ p. p))) j in
        let (m', d'') = kept Γ₁ l e (λ n. ix (λ p. p)) m in
        let (b, y, o', p', q', r') = match_kept Γ₁ l (match k) f (type_of t) (type_of s) (type_of e) (ix (λ p. p)) o p q r in
        (((o', p', q', rw (d, d', d'') r'), h', rw b j', m'), y)
