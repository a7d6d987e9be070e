-- Where some filling passes, inference fills; and every filling is what it fills, under other numbers.
use Prim.Native.Nat.{ℕ, ◌≤◌}
use native.Mathlib.Omega.{arith}
use mathlib.Core.List.{[], ◌∷◌}
use mathlib.Core.Path.{◌≡◌, refl, ap, sym, subst, ◌∙◌}
use lib.ListN.{length}
use Rattle.rules.specs.Kinds.{number, Kind, leaf₀, unary₁, binary₂, ternary₃, child_count}
use Rattle.rules.specs.Terms.{Fields, only_type, Term, leaf, unary, binary, ternary, type_of}
use Rattle.rules.specs.Binders.{binds₁, binds₃, over_first, over_second}
use Rattle.rules.specs.Types.{Table, NoTwins}
use Rattle.rules.specs.Conditions.{Met, Holds, at_least}
use Rattle.rules.specs.FieldUses.{is_entry, uses, formed_besides}
use Rattle.rules.specs.Typing.{Env, binder, under, level₁, first_level, bound, placed, typed, Judged, Typed}
use Rattle.rules.specs.Format.{most_types}
use Rattle.rules.specs.Links.{node}
use Rattle.rules.specs.Refusals.{bad_index, bad_level, bad_type, table_full}
use Rattle.rules.specs.Check.{judged}
use Rattle.inference.specs.Inference.{Begins, retyped, cleared, renumbered, Formed, Wanted, known, made, wanted, table_for, number_for, Inference, filled, no_term, absent, in_order, assigned, inferred}
use Rattle.rules.proofs.Tests.{pass_both, unless_holds}
use Rattle.rules.proofs.Written.{GoodTable}
use Rattle.inference.proofs.Outcomes.{Reaches, reaches_then, reaches_both, reaches_unless}
use Rattle.inference.proofs.Growing.{begins_then, longer, follows}
use Rattle.inference.proofs.Renaming.{Into, Forced, forced, typed_back, Goes, goes}
use Rattle.inference.proofs.Counting.{no_longer}
use Rattle.inference.proofs.Sound.{bound_any, placed_any, binds₁_any, binds₃_any, field_fixes, EnvIn, env_fixed, env_under, binds₁_in, binds₃_in, Makes, table_begins, table_entries, type_node, wanted_makes, type_in, SoundIf, gone, there, sound}

renumbered_node : (φ : ℕ → ℕ) (k : Kind) (f : Fields) (c s e : Term)
    → renumbered φ (node k f c s e) ≡ node k (retyped (φ f.type) f) (renumbered φ c) (renumbered φ s) (renumbered φ e)
unfolding renumbered
renumbered_node φ (leaf₀ k) f c s e = refl
renumbered_node φ (unary₁ k) f c s e = refl
renumbered_node φ (binary₂ k) f c s e = refl
renumbered_node φ (ternary₃ k) f c s e = refl

-- B is the table of a filling.
module _ (first B : Table) (twins : NoTwins B) (few : length B ≤ most_types) where
  abbrev pub Fixing : (ℕ → ℕ) → Type 0
  Fixing φ = (n : ℕ) → n ≤ length first → φ n ≡ n

  -- Where inference has come to: the table A so far, and how it goes into B.
  pub record Stands (A : Table) (φ : ℕ → ℕ) : Type 0 where
    pub table : GoodTable A
    pub begins : Begins first A
    pub into : Into A B φ
    pub fixing : Fixing φ

  module _ (A : Table) (φ : ℕ → ℕ) (now : Stands A φ) (Γ : Env) (env : EnvIn first Γ) where
    goes_wanted : (w : Wanted) (r : ℕ) → Makes A w → Forced B φ r w → Goes A φ (table_for A w) B (number_for A w) r
    goes_wanted (known n) r m h = record { to = φ; into = now.into; agrees = λ i k. refl; number = sym h }
    goes_wanted (made x) r m h = let (k, p, q) = follows (length A) x m in goes A B φ now.into now.table.entries twins x k (p, q) r h

    assigned_complete : (l : ℕ) (k : Kind) (f : Fields) (place : ℕ) (c s e : Term) → Holds (formed_besides first k f)
        → (1 ≤ child_count k → Met (is_entry A (type_of c))) → (3 ≤ child_count k → Met (is_entry A (type_of s)))
        → type_of c ≤ length A → type_of s ≤ length A → type_of e ≤ length A
        → (r x y z : ℕ) → φ (type_of c) ≡ x → φ (type_of s) ≡ y → φ (type_of e) ≡ z → Judged B Γ l k (retyped r f) x y z
        → (Q : Table → Term → Type 0)
        → ((A' : Table) (n : ℕ) → Begins A A' → n ≤ length A' → Goes A φ A' B n r → Q A' (node k (retyped n f) c s e))
        → Reaches Q (assigned A Γ l k f place c s e)
    unfolding assigned judged
    assigned_complete l k f place c s e form has_first has-second i j o r x y z p q v (_, h10, h11, h12) Q give =
        let w = wanted A Γ k f (type_of c) (type_of s) in
        let A' = table_for A w in
        let n = number_for A w in
        let makes = wanted_makes first A now.begins Γ env k f (type_of c) (type_of s) form has_first in
        let b : Begins A A' = table_begins A w in
        let m = longer b in
        let good = table_entries A w now.table.entries makes in
        let fixed : (i : ℕ) → φ (binder Γ i).type ≡ (binder Γ i).type = λ i. env_fixed first φ now.fixing Γ i env in
        let (p₀, q₀, v₀) : (x ≡ φ (type_of c)) × (y ≡ φ (type_of s)) × (z ≡ φ (type_of e)) = (sym p, sym q, sym v) in
        let force = forced A B φ now.into Γ fixed k f r (type_of c) (type_of s) (type_of e) (field_fixes first φ now.fixing (uses k).a f.a form.0)
        (subst Holds (λ i. typed B Γ k (retyped r f) (p₀ i) (q₀ i) (v₀ i)) h12) in
        let g : Goes A φ A' B n r = goes_wanted w r makes force in
        let ψ : ℕ → ℕ = g.to in
        let fixing' : Fixing ψ = λ i h. g.agrees i (omega (arith, longer now.begins)) ∙ now.fixing i h in
        let fixed' : (i : ℕ) → ψ (binder Γ i).type ≡ (binder Γ i).type = λ i. env_fixed first ψ fixing' Γ i env in
        let r' : r ≡ ψ n = sym g.number in
        let p' : x ≡ ψ (type_of c) = sym (g.agrees (type_of c) i ∙ p) in
        let q' : y ≡ ψ (type_of s) = sym (g.agrees (type_of s) j ∙ q) in
        let v' : z ≡ ψ (type_of e) = sym (g.agrees (type_of e) o ∙ v) in
        let t = typed_back A' B ψ g.into Γ fixed' k f (field_fixes first ψ fixing' (uses k).a f.a form.0) (field_fixes first ψ fixing' (uses k).b f.b form.1.0)
        n (type_of c) (type_of s) (type_of e) (subst Holds (λ i. typed B Γ k (retyped (r' i) f) (p' i) (q' i) (v' i)) h12) in
        let d = bound_any Γ k f r n h10 in
        let type = type_in first A' (begins_then now.begins b) Γ env k (retyped n f) (type_of c) (type_of s) (type_of e) good
        (λ i. let j = has_first i in (omega arith, omega arith)) (λ i. let j = has-second i in (omega arith, omega arith)) d t in
        reaches_unless Q _ (filled A' (node k (retyped n f) c s e))
        (pass_both
        (pass_both (unless_holds (bound Γ k (retyped n f)) bad_index place d)
        (pass_both (unless_holds (placed Γ l k (retyped n f)) bad_level place (placed_any Γ l k f r n h11))
        (unless_holds (typed A' Γ k (retyped n f) (type_of c) (type_of s) (type_of e)) bad_type place t)))
        (unless_holds (at_least (length A') most_types ∷ []) table_full place (omega (arith, no_longer A' B ψ good g.into), tt)))
        (give A' n b type.1 g)

  -- The numbers of A' go into B as those of A did, and by them t becomes the filling u.
  pub record Reached (A : Table) (φ : ℕ → ℕ) (u : Term) (A' : Table) (t : Term) : Type 0 where
    pub goes : Goes A φ A' B (type_of t) (type_of u)
    pub like : (ψ : ℕ → ℕ) → ((i : ℕ) → i ≤ length A' → ψ i ≡ goes.to i) → renumbered ψ t ≡ u

  -- A child, which is there or not, and where inference then stands.
  pub record Child (here : Type 0) (A : Table) (φ : ℕ → ℕ) (Γ : Env) (l : ℕ) (u : Term) (A' : Table) (t : Term) : Type 0 where
    pub sound : SoundIf first here A Γ l (cleared u) A' t
    pub reached : Reached A φ u A' t

  abbrev CompleteFrom : Type 0 → Env → ℕ → Term → (Table → Inference) → Type 0
  CompleteFrom here Γ l u infer = (A : Table) (φ : ℕ → ℕ) → Stands A φ → Reaches (Child here A φ Γ l u) (infer A)

  away : {here : Type 0} (Γ : Env) (l : ℕ) → (here → ⊥) → CompleteFrom here Γ l no_term absent
  unfolding cleared renumbered
  away Γ l not-here A φ now = record {
    sound = gone first Γ l not-here A now.table now.begins;
    reached = record {
      goes = record { to = φ; into = now.into; agrees = λ i h. refl; number = now.into.none };
      like = λ ψ agree. ap (λ n. leaf number (only_type n)) (agree 0 (omega arith) ∙ now.into.none);
    };
  }

  present : (here : Type 0) (Γ : Env) (l : ℕ) (u : Term) → Formed first (cleared u) → EnvIn first Γ
      → ((A : Table) (φ : ℕ → ℕ) → Stands A φ → Reaches (Reached A φ u) (inferred A Γ l (cleared u))) → CompleteFrom here Γ l u (λ A. inferred A Γ l (cleared u))
  present here Γ l u o env h A φ now =
      reaches_both (Child here A φ Γ l u) (inferred A Γ l (cleared u)) (λ A' t s r. record { sound = s; reached = r })
      (there first here Γ l (cleared u) (λ A. inferred A Γ l (cleared u)) (sound first (cleared u) Γ l o env) A now.table now.begins) (h A φ now)

  after : {here : Type 0} {A : Table} {φ : ℕ → ℕ} {Γ : Env} {l : ℕ} {u : Term} {A' : Table} {t : Term} → Stands A φ → (h : Child here A φ Γ l u A' t)
      → Stands A' h.reached.goes.to
  after now h = record {
    table = h.sound.table;
    begins = begins_then now.begins h.sound.begins;
    into = h.reached.goes.into;
    fixing = λ i q. h.reached.goes.agrees i (omega (arith, longer now.begins)) ∙ now.fixing i q;
  }

  module _ (k : Kind) (f : Fields) (Γ : Env) (l : ℕ) (form : Holds (formed_besides first k (retyped 0 f))) (env : EnvIn first Γ) (t u v : Term) (C S E : Table → Inference)
      (judged : Judged B Γ l k f (type_of t) (type_of u) (type_of v)) where
    node_complete : CompleteFrom (1 ≤ child_count k) (under l (over_first k (retyped 0 f)) Γ) (first_level k l) t C
        → CompleteFrom (2 ≤ child_count k) (under 0 (over_second k (retyped 0 f)) Γ) l u S → CompleteFrom (3 ≤ child_count k) Γ l v E
        → (A : Table) (φ : ℕ → ℕ) → Stands A φ → Reaches (Reached A φ (node k f t u v)) (in_order C S E (λ A c s e. assigned A Γ l k (retyped 0 f) 0 c s e) A)
    node_complete hc hs he A φ now =
        let Q : Table → Term → Type 0 = Reached A φ (node k f t u v) in
        let Γ₁ = under l (over_first k (retyped 0 f)) Γ in
        let Γ₂ = under 0 (over_second k (retyped 0 f)) Γ in
        reaches_then (Child (1 ≤ child_count k) A φ Γ₁ (first_level k l) t) Q _ _ (hc A φ now) (λ A₁ c h₁.
        let now₁ = after now h₁ in
        let g₁ : Goes A φ A₁ B (type_of c) (type_of t) = h₁.reached.goes in
        reaches_then (Child (2 ≤ child_count k) A₁ g₁.to Γ₂ l u) Q _ _ (hs A₁ g₁.to now₁) (λ A₂ s h₂.
        let now₂ = after now₁ h₂ in
        let g₂ : Goes A₁ g₁.to A₂ B (type_of s) (type_of u) = h₂.reached.goes in
        reaches_then (Child (3 ≤ child_count k) A₂ g₂.to Γ l v) Q _ _ (he A₂ g₂.to now₂) (λ A₃ e h₃.
        let g₃ : Goes A₂ g₂.to A₃ B (type_of e) (type_of v) = h₃.reached.goes in
        let l₁ = longer h₁.sound.begins in
        let l₂ = longer h₂.sound.begins in
        let l₃ = longer h₃.sound.begins in
        let i₁ = h₁.sound.low in
        let i₂ = h₂.sound.low in
        assigned_complete A₃ g₃.to (after now₂ h₃) Γ env l k (retyped 0 f) 0 c s e form
        (λ i. let j = h₁.sound.type i in (omega arith, omega arith)) (λ i. let j = h₂.sound.type (omega arith) in (omega arith, omega arith))
        (omega arith) (omega arith) h₃.sound.low f.type (type_of t) (type_of u) (type_of v)
        (g₃.agrees (type_of c) (omega arith) ∙ g₂.agrees (type_of c) i₁ ∙ g₁.number) (g₃.agrees (type_of s) i₂ ∙ g₂.number) g₃.number judged Q (λ A' n b i g.
        let l' = longer b in
        record {
          goes = record {
            to = g.to;
            into = g.into;
            agrees = λ i q. g.agrees i (omega arith) ∙ g₃.agrees i (omega arith) ∙ g₂.agrees i (omega arith) ∙ g₁.agrees i q;
            number = ap g.to (type_node k (retyped n f) c s e) ∙ g.number ∙ sym (type_node k f t u v);
          };
          like = λ ψ agree.
              let w = agree n i ∙ g.number in
              let x = h₁.reached.like ψ (λ i q. agree i (omega arith) ∙ g.agrees i (omega arith) ∙ g₃.agrees i (omega arith) ∙ g₂.agrees i q) in
              let y = h₂.reached.like ψ (λ i q. agree i (omega arith) ∙ g.agrees i (omega arith) ∙ g₃.agrees i q) in
              let z = h₃.reached.like ψ (λ i q. agree i (omega arith) ∙ g.agrees i q) in
              renumbered_node ψ k (retyped n f) c s e ∙ (λ i. node k (retyped (w i) f) (x i) (y i) (z i));
        }))))

  -- Where u is a filling, inference of u cleared fills, and what it fills is u under other numbers.
  pub complete : (u : Term) (Γ : Env) (l : ℕ) → Formed first (cleared u) → EnvIn first Γ → Typed B Γ l u → (A : Table) (φ : ℕ → ℕ) → Stands A φ
      → Reaches (Reached A φ u) (inferred A Γ l (cleared u))
  unfolding inferred cleared Formed Typed
  complete (leaf k f) Γ l o env j =
      node_complete (leaf₀ k) f Γ l o env no_term no_term no_term absent absent absent j (away _ _ (λ i. omega arith)) (away _ _ (λ i. omega arith)) (away _ _ (λ i. omega arith))
  complete (unary k f t) Γ l (o, p) env (j, h) =
      let g = retyped 0 f in
      let env₁ = env_under first l (binds₁ k g) Γ (binds₁_in first k g o) env in
      node_complete (unary₁ k) f Γ l o env t no_term no_term _ absent absent j
      (present _ (under l (binds₁ k g) Γ) (level₁ k l) t p env₁
      (complete t (under l (binds₁ k g) Γ) (level₁ k l) p env₁ (subst (λ ns. Typed B (under l ns Γ) (level₁ k l) t) (binds₁_any k f f.type 0) h)))
      (away _ _ (λ i. omega arith)) (away _ _ (λ i. omega arith))
  complete (binary k f t u) Γ l (o, p, q) env (j, h, h') =
      node_complete (binary₂ k) f Γ l o env t u no_term _ _ absent j
      (present _ Γ l t p env (complete t Γ l p env h)) (present _ Γ l u q env (complete u Γ l q env h')) (away _ _ (λ i. omega arith))
  complete (ternary k f t u v) Γ l (o, p, q, r) env (j, h, h', h'') =
      let g = retyped 0 f in
      let env₂ = env_under first 0 (binds₃ k g) Γ (binds₃_in first k g o) env in
      node_complete (ternary₃ k) f Γ l o env t u v _ _ _ j (present _ Γ l t p env (complete t Γ l p env h))
      (present _ (under 0 (binds₃ k g) Γ) l u q env₂ (complete u (under 0 (binds₃ k g) Γ) l q env₂ (subst (λ ns. Typed B (under 0 ns Γ) l u) (binds₃_any k f f.type 0) h')))
      (present _ Γ l v r env (complete v Γ l r env h''))
