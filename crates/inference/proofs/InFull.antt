-- Types written out in full: those of a good table are whole, and the same types under other numbers are the same.
use Prim.Native.Nat.{ℕ, zero, suc, ◌≤◌, ◌<◌}
use native.Mathlib.Omega.{arith}
use mathlib.Core.List.{List, [], ◌∷◌, ◌++◌, map, map-append}
use mathlib.Core.Logic.{inl, inr}
use mathlib.Core.Path.{◌≡◌, refl, ap, ap₂, sym, ◌∙◌}
use lib.ListN.{length}
use Rattle.rules.specs.Lists.{All}
use Rattle.rules.specs.Terms.{Term, leaf, unary, binary, ternary}
use Rattle.rules.specs.Types.{Entry, Table, entry}
use Rattle.rules.specs.Conditions.{Met}
use Rattle.rules.specs.FieldUses.{is_entry}
use Rattle.rules.specs.Typing.{Env, Typed}
use Rattle.rules.proofs.General.{all_append}
use Rattle.rules.proofs.Written.{GoodTable}
use Rattle.inference.specs.Inference.{renumbered, types_of}
use Rattle.inference.specs.FullTypes.{entry_out, full, Whole, full_types}
use Rattle.inference.proofs.Growing.{Cases, cases}
use Rattle.inference.proofs.Renaming.{Into}

-- The same types under other numbers are the same in full.
module _ (A B : Table) (φ : ℕ → ℕ) (into : Into A B φ) where
  full_same : (depth n : ℕ) → full depth B (φ n) ≡ full depth A n
  unfolding full
  full_same zero n = refl
  full_same (suc depth) n = ap (entry_out (full depth B)) (into.keeps n) ∙ (λ i. entry_out (λ m. full_same depth m i) (entry A n))

  types_renumbered : (t : Term) → types_of (renumbered φ t) ≡ map φ (types_of t)
  unfolding types_of renumbered
  types_renumbered (leaf k f) = refl
  types_renumbered (unary k f t) = ap (◌∷◌ (φ f.type)) (types_renumbered t)
  types_renumbered (binary k f t u) = ap (◌∷◌ (φ f.type)) (ap₂ ◌++◌ (types_renumbered t) (types_renumbered u) ∙ sym (map-append φ (types_of t) (types_of u)))
  types_renumbered (ternary k f t s e) = ap (◌∷◌ (φ f.type))
      (ap₂ ◌++◌ (types_renumbered t) (ap₂ ◌++◌ (types_renumbered s) (types_renumbered e) ∙ sym (map-append φ (types_of s) (types_of e)))
      ∙ sym (map-append φ (types_of t) (types_of s ++ types_of e)))

  all_same : (depth : ℕ) (ns : List ℕ) → map (full depth B) (map φ ns) ≡ map (full depth A) ns
  all_same depth [] = refl
  all_same depth (n ∷ ns) = ap₂ ◌∷◌ (full_same depth n) (all_same depth ns)

  pub types_same : (depth : ℕ) (t : Term) → full_types depth B (renumbered φ t) ≡ full_types depth A t
  types_same depth t = ap (map (full depth B)) (types_renumbered t) ∙ all_same depth (types_of t)

-- The types of a typed term are entries.
types_entries : (types : Table) (t : Term) (Γ : Env) (l : ℕ) → Typed types Γ l t → All (λ n. Met (is_entry types n)) (types_of t)
unfolding types_of Typed
types_entries types (leaf k f) Γ l j = (j.0.0, tt)
types_entries types (unary k f t) Γ l (j, h) = (j.0.0, types_entries types t _ _ h)
types_entries types (binary k f t u) Γ l (j, h, h') = (j.0.0, all_append _ (types_of t) (types_of u) (types_entries types t _ _ h) (types_entries types u _ _ h'))
types_entries types (ternary k f t s e) Γ l (j, h, h', h'') = (
  j.0.0,
  all_append _ (types_of t) (types_of s ++ types_of e) (types_entries types t _ _ h) (all_append _ (types_of s) (types_of e) (types_entries types s _ _ h') (types_entries types e _ _ h'')),
)

-- In a good table type n, to a depth of n or more, is whole: its parts are numbers below n.
module _ (types : Table) (good : GoodTable types) where
  whole_entry : (depth n : ℕ) (x : Entry) → Cases n x → ((m : ℕ) → 1 ≤ m → m < n → Whole (full depth types m))
      → Whole (entry_out (full depth types) x)
  unfolding Whole
  whole_entry depth n x (inl e) part = rw e tt
  whole_entry depth n x (inr (inl (e, p, q))) part = rw e (part x.a (omega arith) (omega arith), part x.b (omega arith) (omega arith))
  whole_entry depth n x (inr (inr (e, p, q))) part = rw e (part x.a (omega arith) (omega arith))

  pub full_whole : (depth n : ℕ) → 1 ≤ n → n ≤ length types → n ≤ depth → Whole (full depth types n)
  unfolding full
  full_whole zero n i b h = absurd (omega arith)
  full_whole (suc depth) n i b h =
      whole_entry depth n (entry types n) (cases n (entry types n) (good.entries n i (omega arith)).1) (λ m j k. full_whole depth m j (omega arith) (omega arith))

  -- So is the type of each record of a typed term.
  module _ (depth : ℕ) (deep : length types ≤ depth) where
    type_whole : (n : ℕ) → Met (is_entry types n) → Whole (full depth types n)
    type_whole n (i, b) = full_whole depth n i b (omega arith)

    all_whole : (ns : List ℕ) → All (λ n. Met (is_entry types n)) ns → All Whole (map (full depth types) ns)
    all_whole [] h = tt
    all_whole (n ∷ ns) (h, hs) = (type_whole n h, all_whole ns hs)

    pub types_whole : (t : Term) (Γ : Env) (l : ℕ) → Typed types Γ l t → All Whole (full_types depth types t)
    types_whole t Γ l h = all_whole (types_of t) (types_entries types t Γ l h)
