-- What inference fills for a term passes: its table keeps rule 6, and the term is typed in it.
use Prim.Native.Nat.{ℕ, zero, suc, ◌≤◌, ◌<◌}
use native.Mathlib.Omega.{arith}
use mathlib.Core.List.{List, [], ◌∷◌}
use mathlib.Core.Logic.{inl, inr}
use mathlib.Core.Path.{◌≡◌, refl, ap, sym, subst, ◌∙◌}
use lib.ListN.{length}
use Rattle.rules.specs.Lists.{All}
use Rattle.rules.specs.Kinds.{number, variable, Unary, function, fix, lift, quote, splice, application, match_number, match_application, match_lift, match_function, match_fix, Ternary, match_variable, match_shape, match, Kind, leaf₀, unary₁, binary₂, ternary₃, child_count}
use Rattle.rules.specs.Terms.{Fields, Term, leaf, unary, binary, ternary, type_of}
use Rattle.rules.specs.Binders.{binds₁, binds₃, over_first, over_second}
use Rattle.rules.specs.Types.{Table}
use Rattle.rules.specs.Conditions.{Met, Holds, at_least}
use Rattle.rules.specs.FieldUses.{Use, unused, an_index, a_type, a_number, is_entry, field, uses, formed_besides}
use Rattle.rules.specs.Typing.{Env, binder, under, level₁, first_level, bound, placed, typed, Judged, Typed}
use Rattle.rules.specs.Format.{most_types}
use Rattle.rules.specs.Links.{node}
use Rattle.rules.specs.Refusals.{bad_index, bad_level, bad_type, table_full}
use Rattle.rules.specs.Check.{kind_rule, judged}
use Rattle.inference.specs.Inference.{Begins, retyped, cleared, Formed, having, before, Wanted, known, made, wanted, table_for, number_for, Inference, faulty, filled, no_term, absent, in_order, assigned, inferred}
use Rattle.rules.proofs.Tables.{entry_in}
use Rattle.rules.proofs.Tree.{fields_node}
use Rattle.rules.proofs.Tests.{both_pass, holds_unless}
use Rattle.rules.proofs.Written.{GoodTable}
use Rattle.inference.proofs.Outcomes.{Fills, fills_then, fills_unless}
use Rattle.inference.proofs.Cleared.{cleared_node}
use Rattle.inference.proofs.Growing.{begins_itself, begins_then, longer, Had, had, Entries, appended, fn_parts, code_part}
use Rattle.inference.proofs.Renaming.{Fixes, over, over_low, over_into, typed_forth}

-- Rules 10 and 11, and what a record binds, don't look at its type.
pub bound_any : (Γ : Env) (k : Kind) (f : Fields) (m n : ℕ) → Holds (bound Γ k (retyped m f)) → Holds (bound Γ k (retyped n f))
bound_any Γ (leaf₀ number) f m n h = h
bound_any Γ (leaf₀ variable) f m n h = h
bound_any Γ (unary₁ k) f m n h = h
bound_any Γ (binary₂ k) f m n h = h
bound_any Γ (ternary₃ (match match_variable)) f m n h = h
bound_any Γ (ternary₃ (match (match_shape k))) f m n h = h

pub placed_any : (Γ : Env) (l : ℕ) (k : Kind) (f : Fields) (m n : ℕ) → Holds (placed Γ l k (retyped m f)) → Holds (placed Γ l k (retyped n f))
placed_any Γ l (leaf₀ number) f m n h = h
placed_any Γ l (leaf₀ variable) f m n h = h
placed_any Γ l (unary₁ k) f m n h = h
placed_any Γ l (binary₂ k) f m n h = h
placed_any Γ l (ternary₃ (match match_variable)) f m n h = h
placed_any Γ l (ternary₃ (match (match_shape k))) f m n h = h

pub binds₁_any : (k : Unary) (f : Fields) (m n : ℕ) → binds₁ k (retyped m f) ≡ binds₁ k (retyped n f)
binds₁_any function f m n = refl
binds₁_any fix f m n = refl
binds₁_any lift f m n = refl
binds₁_any quote f m n = refl
binds₁_any splice f m n = refl

pub binds₃_any : (k : Ternary) (f : Fields) (m n : ℕ) → binds₃ k (retyped m f) ≡ binds₃ k (retyped n f)
binds₃_any (match match_variable) f m n = refl
binds₃_any (match (match_shape match_number)) f m n = refl
binds₃_any (match (match_shape match_application)) f m n = refl
binds₃_any (match (match_shape match_lift)) f m n = refl
binds₃_any (match (match_shape match_function)) f m n = refl
binds₃_any (match (match_shape match_fix)) f m n = refl

over_first_lem : (k : Kind) (f : Fields) (m n : ℕ) → over_first k (retyped m f) ≡ over_first k (retyped n f)
over_first_lem (leaf₀ k) f m n = refl
over_first_lem (unary₁ k) f m n = binds₁_any k f m n
over_first_lem (binary₂ k) f m n = refl
over_first_lem (ternary₃ k) f m n = refl

over_second_lem : (k : Kind) (f : Fields) (m n : ℕ) → over_second k (retyped m f) ≡ over_second k (retyped n f)
over_second_lem (leaf₀ k) f m n = refl
over_second_lem (unary₁ k) f m n = refl
over_second_lem (binary₂ k) f m n = refl
over_second_lem (ternary₃ k) f m n = binds₃_any k f m n

-- A field that is good in a table is good in a longer one, and names a type that a longer one has.
field_more : (A B : Table) → length A ≤ length B → (u : Use) (n : ℕ) → Met (field A u n) → Met (field B u n)
field_more A B l unused n h = h
field_more A B l an_index n h = h
field_more A B l a_type n h = (omega arith, omega arith)
field_more A B l a_number n h = h

pub field_fixes : (A : Table) (φ : ℕ → ℕ) → ((n : ℕ) → n ≤ length A → φ n ≡ n) → (u : Use) (n : ℕ) → Met (field A u n) → Fixes φ u n
field_fixes A φ fixing unused n h = tt
field_fixes A φ fixing an_index n h = tt
field_fixes A φ fixing a_type n h = fixing n h.1
field_fixes A φ fixing a_number n h = tt

-- The binders' types are entries of the table.
abbrev pub EnvIn : Table → Env → Type 0
EnvIn A Γ = All (λ b. Met (is_entry A b.type)) Γ

env_in : (A : Table) (Γ : Env) (i : ℕ) → i < length Γ → EnvIn A Γ → Met (is_entry A (binder Γ i).type)
env_in A [] i h e = absurd (omega arith)
env_in A (b ∷ Γ) zero h (e, _) = e
env_in A (b ∷ Γ) (suc i) h (_, e) = env_in A Γ i (omega arith) e

pub env_fixed : (A : Table) (φ : ℕ → ℕ) → ((n : ℕ) → n ≤ length A → φ n ≡ n) → (Γ : Env) (i : ℕ) → EnvIn A Γ → φ (binder Γ i).type ≡ (binder Γ i).type
env_fixed A φ fixing [] i e = fixing 0 (omega arith)
env_fixed A φ fixing (b ∷ Γ) zero (e, _) = fixing b.type e.1
env_fixed A φ fixing (b ∷ Γ) (suc i) (_, e) = env_fixed A φ fixing Γ i e

pub env_under : (A : Table) (l : ℕ) (ns : List ℕ) (Γ : Env) → All (λ n. Met (is_entry A n)) ns → EnvIn A Γ → EnvIn A (under l ns Γ)
env_under A l [] Γ h e = e
env_under A l (n ∷ ns) Γ (h, k) e = (h, env_under A l ns Γ k e)

pub binds₁_in : (A : Table) (k : Unary) (f : Fields) → Holds (formed_besides A (unary₁ k) f) → All (λ n. Met (is_entry A n)) (binds₁ k f)
binds₁_in A function f h = (h.0, tt)
binds₁_in A fix f h = tt
binds₁_in A lift f h = tt
binds₁_in A quote f h = tt
binds₁_in A splice f h = tt

pub binds₃_in : (A : Table) (k : Ternary) (f : Fields) → Holds (formed_besides A (ternary₃ k) f) → All (λ n. Met (is_entry A n)) (binds₃ k f)
binds₃_in A (match match_variable) f h = tt
binds₃_in A (match (match_shape match_number)) f h = tt
binds₃_in A (match (match_shape match_application)) f h = (h.1.0, (h.0, tt))
binds₃_in A (match (match_shape match_lift)) f h = (h.0, tt)
binds₃_in A (match (match_shape match_function)) f h = (h.0, tt)
binds₃_in A (match (match_shape match_fix)) f h = (h.0, tt)

-- A record's term, from its children's.
pub type_node : (k : Kind) (f : Fields) (c s e : Term) → type_of (node k f c s e) ≡ f.type
type_node k f c s e = ap (λ f. f.type) (fields_node k f c s e)

node_typed : (A : Table) (k : Kind) (f : Fields) (Γ : Env) (l : ℕ) (c s e : Term) → Judged A Γ l k f (type_of c) (type_of s) (type_of e)
    → (1 ≤ child_count k → Typed A (under l (over_first k f) Γ) (first_level k l) c)
    → (2 ≤ child_count k → Typed A (under 0 (over_second k f) Γ) l s)
    → (3 ≤ child_count k → Typed A Γ l e) → Typed A Γ l (node k f c s e)
unfolding Typed
node_typed A (leaf₀ number) f Γ l c s e j p q r = j
node_typed A (leaf₀ variable) f Γ l c s e j p q r = j
node_typed A (unary₁ k) f Γ l c s e j p q r = (j, p (omega arith))
node_typed A (binary₂ k) f Γ l c s e j p q r = (j, p (omega arith), q (omega arith))
node_typed A (ternary₃ k) f Γ l c s e j p q r = (j, p (omega arith), q (omega arith), r (omega arith))

-- What is wanted is a number, or an entry that rule 6 lets follow the table.
abbrev pub Makes : Table → Wanted → Type 0
Makes A (known n) = Unit {0}
Makes A (made x) = Holds (kind_rule (suc (length A)) x)

pub table_begins : (A : Table) (w : Wanted) → Begins A (table_for A w)
table_begins A (known n) = begins_itself A
table_begins A (made x) = go (had A x)
  where
    go : Had A x (having A x) (before A x) → Begins A (having A x)
    go (inl (e, _)) = rw e (begins_itself A)
    go (inr (e, _, _)) = record { more = x ∷ []; whole = e }

pub table_entries : (A : Table) (w : Wanted) → Entries A → Makes A w → Entries (table_for A w)
table_entries A (known n) good m = good
table_entries A (made x) good m = go (having A x) (had A x)
  where
    go : (B : Table) → Had A x B (before A x) → Entries B
    go B (inl (e, _)) = rw e good
    go B (inr (e, _, h)) = rw e (appended A x good h m)

module _ (first : Table) where
  -- A record whose children c and s, where it has them, have types in A.
  module _ (A : Table) (begins : Begins first A) (Γ : Env) (env : EnvIn first Γ) where
    pub wanted_makes : (k : Kind) (f : Fields) (x y : ℕ) → Holds (formed_besides first k f) → (1 ≤ child_count k → Met (is_entry A x)) → Makes A (wanted A Γ k f x y)
    wanted_makes (leaf₀ number) f x y o c = (refl, tt)
    wanted_makes (leaf₀ variable) f x y o c = tt
    wanted_makes (unary₁ function) f x y o c = let l = longer begins in let h = c (omega arith) in ((omega (arith, o.0), omega (arith, o.0)), ((omega arith, omega arith), tt))
    wanted_makes (unary₁ fix) f x y o c = tt
    wanted_makes (unary₁ lift) f x y o c = let h = c (omega arith) in (refl, ((omega arith, omega arith), (refl, tt)))
    wanted_makes (unary₁ quote) f x y o c = let h = c (omega arith) in (refl, ((omega arith, omega arith), (refl, tt)))
    wanted_makes (unary₁ splice) f x y o c = tt
    wanted_makes (binary₂ application) f x y o c = tt
    wanted_makes (ternary₃ k) f x y o c = tt

    pub type_in : (k : Kind) (f : Fields) (x y z : ℕ) → Entries A → (1 ≤ child_count k → Met (is_entry A x)) → (3 ≤ child_count k → Met (is_entry A y))
        → Holds (bound Γ k f) → Holds (typed A Γ k f x y z) → Met (is_entry A f.type)
    type_in (leaf₀ number) f x y z good c s b (h, _) = entry_in A f.type h (omega arith)
    type_in (leaf₀ variable) f x y z good c s (b, _) (h, _) = let l = longer begins in let e = env_in first Γ f.a b env in (omega arith, omega arith)
    type_in (unary₁ function) f x y z good c s b (h, _) = entry_in A f.type h (omega arith)
    type_in (unary₁ fix) f x y z good c s b (h, _) = (fn_parts A good x f.type f.type (c (omega arith)) h).0
    type_in (unary₁ lift) f x y z good c s b (_, (h, _)) = entry_in A f.type h (omega arith)
    type_in (unary₁ quote) f x y z good c s b (h, _) = entry_in A f.type h (omega arith)
    type_in (unary₁ splice) f x y z good c s b (h, _) = code_part A good x f.type (c (omega arith)) h
    type_in (binary₂ application) f x y z good c s b (h, _) = (fn_parts A good x y f.type (c (omega arith)) h).1
    type_in (ternary₃ (match k)) f x y z good c s b (h, _) = subst (λ n. Met (is_entry A n)) h (s (omega arith))

    -- A record judged in A is judged alike in every table that begins with A.
    judged_more : (B : Table) → Begins A B → Entries A → (l : ℕ) (k : Kind) (f : Fields) (r x y z : ℕ) → x ≤ length A → y ≤ length A → z ≤ length A
        → Judged A Γ l k (retyped r f) x y z → Judged B Γ l k (retyped r f) x y z
    judged_more B b good l k f r x y z i j h ((o, (p, (q, (v, _)))), d, e, t) =
        let n = longer b in
        let φ : ℕ → ℕ = over A B in
        let low = over_low b in
        let more = field_more A B n in
        let fixes = field_fixes A φ low in
        let fixed : (i : ℕ) → φ (binder Γ i).type ≡ (binder Γ i).type = λ i. env_fixed first φ (λ m u. low m (omega (arith, longer begins))) Γ i env in
        let t' = typed_forth A B φ (over_into b good) Γ fixed k f (fixes (uses k).a f.a p) (fixes (uses k).b f.b q) r x y z t in
        let r' = low r o.1 in
        let x' = low x i in
        let y' = low y j in
        let z' = low z h in (
          ((omega arith, omega arith), (more (uses k).a f.a p, (more (uses k).b f.b q, (more (uses k).value f.value v, tt)))),
          d,
          e,
          subst Holds (λ i. typed B Γ k (retyped (r' i) f) (x' i) (y' i) (z' i)) t',
        )

  -- What inference of a record comes to.
  module _ (A : Table) (table : GoodTable A) (begins : Begins first A) (Γ : Env) (env : EnvIn first Γ) where
    module _ (l : ℕ) (k : Kind) (f : Fields) (place : ℕ) (c s e : Term) (form : Holds (formed_besides first k f))
        (has_first : 1 ≤ child_count k → Met (is_entry A (type_of c))) (has-second : 3 ≤ child_count k → Met (is_entry A (type_of s))) where
      assigned_sound : (Q : Table → Term → Type 0)
          → ((B : Table) (r : ℕ) → Begins A B → GoodTable B → Judged B Γ l k (retyped r f) (type_of c) (type_of s) (type_of e) → Q B (node k (retyped r f) c s e))
          → Fills Q (assigned A Γ l k f place c s e)
      unfolding assigned judged
      assigned_sound Q give =
          let x = type_of c in
          let y = type_of s in
          let w = wanted A Γ k f x y in
          let B = table_for A w in
          let r = number_for A w in
          let b : Begins A B = table_begins A w in
          let n = longer b in
          let first-b = begins_then begins b in
          let m = longer first-b in
          let good = table_entries A w table.entries (wanted_makes A begins Γ env k f x y form has_first) in
          let more = field_more first B m in
          fills_unless Q _ (filled B (node k (retyped r f) c s e)) (λ h.
          let (h₁, h14) = both_pass _ _ h in
          let (h10, h₂) = both_pass _ _ h₁ in
          let (h11, h12) = both_pass _ _ h₂ in
          let d = holds_unless (bound Γ k (retyped r f)) bad_index place h10 in
          let t = holds_unless (typed B Γ k (retyped r f) x y (type_of e)) bad_type place h12 in
          let few = (holds_unless (at_least (length B) most_types ∷ []) table_full place h14).0 in
          let type = type_in B first-b Γ env k (retyped r f) x y (type_of e) good
          (λ i. let j = has_first i in (omega arith, omega arith)) (λ i. let j = has-second i in (omega arith, omega arith)) d t in
          give B r b record { some = omega (arith, table.some); few = omega (arith, few); entries = good } (
            (type, (more (uses k).a f.a form.0, (more (uses k).b f.b form.1.0, (more (uses k).value f.value form.1.1.0, tt)))),
            d,
            holds_unless (placed Γ l k (retyped r f)) bad_level place h11,
            t,
          ))

  -- The table goes on from A, and t, if it is there, is typed in it and in every table that it begins; cleared, it is the term that was given.
  pub record SoundIf (here : Type 0) (A : Table) (Γ : Env) (l : ℕ) (given : Term) (B : Table) (t : Term) : Type 0 where
    pub begins : Begins A B
    pub table : GoodTable B
    pub low : type_of t ≤ length B
    pub type : here → Met (is_entry B (type_of t))
    pub typed : here → (C : Table) → Begins B C → Typed C Γ l t
    pub back : cleared t ≡ cleared given

  abbrev pub Sound : Table → Env → ℕ → Term → Table → Term → Type 0
  Sound = SoundIf (Unit {0})

  -- Inference that is sound from every table.
  abbrev pub SoundFrom : Type 0 → Env → ℕ → Term → (Table → Inference) → Type 0
  SoundFrom here Γ l given infer = (A : Table) → GoodTable A → Begins first A → Fills (SoundIf here A Γ l given) (infer A)

  pub gone : {here : Type 0} (Γ : Env) (l : ℕ) → (here → ⊥) → SoundFrom here Γ l no_term absent
  gone Γ l away A table begins = record { begins = begins_itself A; table = table; low = omega arith; type = λ h. absurd (away h); typed = λ h. absurd (away h); back = refl }

  pub there : (here : Type 0) (Γ : Env) (l : ℕ) (given : Term) (infer : Table → Inference) → SoundFrom (Unit {0}) Γ l given infer → SoundFrom here Γ l given infer
  there here Γ l given infer h A table begins = go (infer A) (h A table begins)
    where
      go : (o : Inference) → Fills (Sound A Γ l given) o → Fills (SoundIf here A Γ l given) o
      go (faulty r) h = tt
      go (filled B t) h = record { begins = h.begins; table = h.table; low = h.low; type = λ _. h.type tt; typed = λ _. h.typed tt; back = h.back }

  module _ (k : Kind) (f : Fields) (Γ : Env) (l : ℕ) (form : Holds (formed_besides first k f)) (env : EnvIn first Γ) (tc ts te : Term) (C S E : Table → Inference) where
    node_sound : SoundFrom (1 ≤ child_count k) (under l (over_first k f) Γ) (first_level k l) tc C → SoundFrom (2 ≤ child_count k) (under 0 (over_second k f) Γ) l ts S
        → SoundFrom (3 ≤ child_count k) Γ l te E
        → SoundFrom (Unit {0}) Γ l (node k f tc ts te) (in_order C S E (λ A c s e. assigned A Γ l k f 0 c s e))
    node_sound hc hs he A table begins =
        let Q : Table → Term → Type 0 = Sound A Γ l (node k f tc ts te) in
        let Γ₁ = under l (over_first k f) Γ in
        let Γ₂ = under 0 (over_second k f) Γ in
        fills_then (SoundIf (1 ≤ child_count k) A Γ₁ (first_level k l) tc) Q _ _ (hc A table begins) (λ A₁ c h₁.
        let b₁ = begins_then begins h₁.begins in
        fills_then (SoundIf (2 ≤ child_count k) A₁ Γ₂ l ts) Q _ _ (hs A₁ h₁.table b₁) (λ A₂ s h₂.
        let b₂ = begins_then b₁ h₂.begins in
        let l₂ = longer h₂.begins in
        fills_then (SoundIf (3 ≤ child_count k) A₂ Γ l te) Q _ _ (he A₂ h₂.table b₂) (λ A₃ e h₃.
        let b₃ = begins_then b₂ h₃.begins in
        let l₃ = longer h₃.begins in
        assigned_sound A₃ h₃.table b₃ Γ env l k f 0 c s e form
        (λ i. let t = h₁.type i in (omega arith, omega arith)) (λ i. let t = h₂.type (omega arith) in (omega arith, omega arith)) Q (λ B r b good j.
        let n = longer b in
        let type = type_node k (retyped r f) c s e in
        let e₁ = h₁.back in
        let e₂ = h₂.back in
        let e₃ = h₃.back in
        record {
          begins = begins_then h₁.begins (begins_then h₂.begins (begins_then h₃.begins b));
          table = good;
          low = omega (arith, j.0.0.1);
          type = λ _. (omega (arith, j.0.0.0), omega (arith, j.0.0.1));
          typed = λ _ D q. node_typed D k (retyped r f) Γ l c s e
              (judged_more B (begins_then b₃ b) Γ env D q good.entries l k f r (type_of c) (type_of s) (type_of e)
              (omega (arith, h₁.low)) (omega (arith, h₂.low)) (omega (arith, h₃.low)) j)
              (λ i. subst (λ ns. Typed D (under l ns Γ) (first_level k l) c) (over_first_lem k f f.type r)
              (h₁.typed i D (begins_then h₂.begins (begins_then h₃.begins (begins_then b q)))))
              (λ i. subst (λ ns. Typed D (under 0 ns Γ) l s) (over_second_lem k f f.type r) (h₂.typed i D (begins_then h₃.begins (begins_then b q))))
              (λ i. h₃.typed i D (begins_then b q));
          back = cleared_node k (retyped r f) c s e ∙ (λ i. node k (retyped 0 f) (e₁ i) (e₂ i) (e₃ i)) ∙ sym (cleared_node k f tc ts te);
        }))))

  -- Inference of a term whose fields are good is sound.
  pub sound : (t : Term) (Γ : Env) (l : ℕ) → Formed first t → EnvIn first Γ → SoundFrom (Unit {0}) Γ l t (λ A. inferred A Γ l t)
  unfolding inferred Formed
  sound (leaf k f) Γ l o env =
      node_sound (leaf₀ k) f Γ l o env no_term no_term no_term absent absent absent (gone _ _ (λ i. omega arith)) (gone _ _ (λ i. omega arith)) (gone _ _ (λ i. omega arith))
  sound (unary k f t) Γ l (o, p) env =
      node_sound (unary₁ k) f Γ l o env t no_term no_term _ absent absent
      (there _ _ _ t (λ A. inferred A (under l (binds₁ k f) Γ) (level₁ k l) t)
      (sound t (under l (binds₁ k f) Γ) (level₁ k l) p (env_under first l (binds₁ k f) Γ (binds₁_in first k f o) env)))
      (gone _ _ (λ i. omega arith)) (gone _ _ (λ i. omega arith))
  sound (binary k f t u) Γ l (o, p, q) env =
      node_sound (binary₂ k) f Γ l o env t u no_term _ _ absent
      (there _ Γ l t (λ A. inferred A Γ l t) (sound t Γ l p env)) (there _ Γ l u (λ A. inferred A Γ l u) (sound u Γ l q env)) (gone _ _ (λ i. omega arith))
  sound (ternary k f t u v) Γ l (o, p, q, r) env =
      node_sound (ternary₃ k) f Γ l o env t u v _ _ _ (there _ Γ l t (λ A. inferred A Γ l t) (sound t Γ l p env))
      (there _ _ l u (λ A. inferred A (under 0 (binds₃ k f) Γ) l u) (sound u (under 0 (binds₃ k f) Γ) l q (env_under first 0 (binds₃ k f) Γ (binds₃_in first k f o) env)))
      (there _ Γ l v (λ A. inferred A Γ l v) (sound v Γ l r env))
