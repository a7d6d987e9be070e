-- A match and the same match over another table: both succeed, with the same terms but for the numbers of types, or both fail.
use Prim.Native.Nat.{ℕ}
use native.Mathlib.Decide.{ℕ_discrete}
use mathlib.Core.Bool.{Bool, true, false, ◌&&◌}
use mathlib.Core.List.{List, [], ◌∷◌}
use mathlib.Core.Option.{Option, none, some}
use mathlib.Core.Path.{◌≡◌, refl, ap, ap₂, sym, ◌∙◌, subst}
use lib.Dec.{T, eqb, eqb→eq, eqb_refl}
use Rattle.rules.specs.Lists.{pick}
use Rattle.rules.specs.Kinds.{number, variable, function, fix, lift, quote, splice, application, Match, match, ternary₃, kind_number, kind_of, numbered}
use Rattle.rules.specs.Terms.{Fields, Term, leaf, unary, ternary}
use Rattle.rules.specs.Types.{Table, entry, Fn, part_a, part_b}
use Rattle.rules.specs.Conditions.{Holds}
use Rattle.rules.specs.FieldUses.{given}
use Rattle.rules.specs.Typing.{Env, pattern, Typed}
use Rattle.rules.specs.Matching.{opened, if_of_kind, matched}
use Rattle.order.specs.FullTypes.{GoodEntries, in_full, SameType}
use Rattle.order.specs.Alike.{leaves, unaries, binaries, ternaries, SameFields, SameTerm}
use Rattle.rules.proofs.General.{Gives, is_true, is_false}
use Rattle.rules.proofs.Tests.{never}
use Rattle.rules.proofs.RuleKinds.{match_at, if_of_kind_lem}
use Rattle.order.proofs.Lists.{nothing, also}
use Rattle.order.proofs.Full.{full_injective}
use Rattle.order.proofs.Entries.{equal_there, fn_parts, code_part}
use Rattle.order.proofs.Retyped.{root_same}
use Rattle.order.proofs.Replaced.{picked₂, SameTerms, wrapped_same, quoted_same}

-- Two options that give alike things, or nothing.
abbrev pub Both : {A B : Type 0} → (A → B → Type 0) → Option A → Option B → Type 0
Both P none none = Unit {0}
Both P none (some y) = ⊥
Both P (some x) none = ⊥
Both P (some x) (some y) = P x y

pub both_some : {A B : Type 0} (P : A → B → Type 0) (o : Option A) (q : Option B) {x : A} → Both P o q → o ≡ some x → (y : B) × (q ≡ some y) × P x y
both_some P none none h e = absurd (never (sym e))
both_some P none (some y) h e = absurd h
both_some P (some z) none h e = absurd h
both_some P (some z) (some y) h e = (y, refl, subst (Gives (λ w. P w y)) e h)

pub both_none : {A B : Type 0} (P : A → B → Type 0) (o : Option A) (q : Option B) → Both P o q → o ≡ none → q ≡ none
both_none P none none h e = refl
both_none P none (some y) h e = absurd h
both_none P (some z) none h e = refl
both_none P (some z) (some y) h e = absurd (never e)

-- A match is the one whose kind has its number.
own_match : (k : Match) → k ≡ match_at (kind_number (ternary₃ (match k)))
own_match k =
    let n = kind_number (ternary₃ (match k)) in
    let P : Option (List Term) → Type 0 = λ o. o ≡ some [] → k ≡ match_at n in
    if_of_kind_lem P k n true [] none (λ e t s. e) (λ s. absurd (never (sym s))) (rw (is_true (eqb n n) (eqb_refl n)) refl)

-- A match of kind number n that binds alike terms by one test.
taking_same : (P : List Term → List Term → Type 0) (k : Match) (n : ℕ) (b c : Bool) (ts us : List Term) (o q : Option (List Term))
    → (k ≡ match_at n → (b ≡ c) × P ts us) → Both P o q → Both P (if_of_kind k n b ts o) (if_of_kind k n c us q)
taking_same P k n b c ts us o q h r = go (eqb (kind_number (ternary₃ (match k))) n) (λ t. h (own_match k ∙ ap match_at (eqb→eq (kind_number (ternary₃ (match k))) n t)))
  where
    go : (d : Bool) → (T d → (b ≡ c) × P ts us) → Both P (pick (d && b) (some ts) o) (pick (d && c) (some us) q)
    go true h = picked₂ (Both P) b c (h tt).0 (λ _. (h tt).1) (λ _. r)
    go false h = r

module _ (types types' : Table) (good : GoodEntries types) (good' : GoodEntries types') where
  -- The fields of a match whose kind is known.
  at : (k : Match) (f g : Fields) {n : Match} → k ≡ n → SameFields given types types' (ternary₃ (match k)) f g → SameFields given types types' (ternary₃ (match n)) f g
  at k f g e = subst (λ j. SameFields given types types' (ternary₃ (match j)) f g) e

  -- Equal types have equal numbers in either table.
  same_test : (x x' y y' : ℕ) → SameType types types' x x' → SameType types types' y y' → eqb x y ≡ eqb x' y'
  same_test x x' y y' p q = elim (ℕ_discrete x y) [
    | yes e ↦ is_true (eqb x y) (rw e (eqb_refl y)) ∙ sym (is_true (eqb x' y') (rw (equal_there types types' good good' x x' y y' p q e) (eqb_refl y')))
    | no n ↦ is_false (eqb x y) (λ t. n (eqb→eq x y t))
        ∙ sym (is_false (eqb x' y') (λ t. n (full_injective types good (in_full types y) x y p.here q.here (p.same ∙ (ap (in_full types') (eqb→eq x' y' t) ∙ sym q.same)) refl)))
  ]

  opened_same : (n n' : ℕ) → SameType types types' n n' → entry types n ≡ Fn (part_a types n) (part_b types n) → {t u : Term} → SameTerm types types' t u → SameTerm types types' (opened types n t) (opened types' n' u)
  opened_same n n' p e h =
      let (a, b) = fn_parts types types' good good' n n' p e in
      unaries function _ _ (record { type = p; a = a; b = refl; value = refl })
      (quoted_same types types' (part_b types n) (part_b types' n') b (wrapped_same types types' (part_a types n) (part_a types' n') a h))

  matched_same : (Γ : Env) (k : Match) (f g : Fields) (C : ℕ) {c c' : Term} → SameTerm types types' c c' → SameFields given types types' (ternary₃ (match k)) f g → Holds (pattern types Γ k f C)
      → Both (SameTerms types types') (matched types k f c) (matched types' k g c')
  unfolding matched kind_of numbered
  matched_same Γ k f g C (leaves number x y r) m pat = taking_same (SameTerms types types') k 9 _ _ [] [] _ _ (λ _. (ap₂ eqb r.value m.value, nothing))
      (taking_same (SameTerms types types') k 12 true true (leaf number x ∷ []) (leaf number y ∷ []) none none (λ _. (refl, also (leaves number x y r) nothing)) tt)
  matched_same Γ k f g C (leaves variable x y r) m pat = taking_same (SameTerms types types') k 10 _ _ [] [] none none (λ e. (ap₂ eqb r.a (at k f g e m).a, nothing)) tt
  matched_same Γ k f g C (unaries function x y r h) m pat = taking_same (SameTerms types types') k 13 true true (_ ∷ []) (_ ∷ []) none none
      (λ e. let p = subst (λ k. Holds (pattern types Γ k f C)) e pat in (refl, also (opened_same f.a g.a (at k f g e m).a p.1.0 h) nothing)) tt
  matched_same Γ k f g C (unaries fix x y r h) m pat = taking_same (SameTerms types types') k 14 true true (_ ∷ []) (_ ∷ []) none none
      (λ e. (refl, also (quoted_same types types' f.a g.a (at k f g e m).a h) nothing)) tt
  matched_same Γ k f g C (unaries lift x y r h) m pat = tt
  matched_same Γ k f g C (unaries quote x y r h) m pat = tt
  matched_same Γ k f g C (unaries splice x y r h) m pat = tt
  matched_same Γ k f g C (binaries application x y r h i) m pat = taking_same (SameTerms types types') k 11 _ _ (_ ∷ _ ∷ []) (_ ∷ _ ∷ []) none none
      (λ e. let p = subst (λ k. Holds (pattern types Γ k f C)) e pat in
      let n = at k f g e m in (
        same_test _ _ (part_a types f.b) (part_a types' g.b) (root_same i) (code_part types types' good good' f.b g.b n.b p.0),
        also (quoted_same types types' f.b g.b n.b i) (also (quoted_same types types' f.a g.a n.a h) nothing),
      )) tt
  matched_same Γ k f g C (ternaries j x y r h h₂ h₃) m pat = tt

  -- Of two matches that wait, both succeed with the same terms or both fail.
  pub matching_same : (Γ : Env) (k : Match) (f g x : Fields) (c s e : Term) {c' : Term} → SameFields given types types' (ternary₃ (match k)) f g → SameTerm types types' c c'
      → Typed types Γ 0 (ternary (match k) f (unary quote x c) s e) → Both (SameTerms types types') (matched types k f c) (matched types' k g c')
  unfolding Typed
  matching_same Γ k f g x c s e r h ((_, _, _, (_, (_, (_, pat)))), _, _, _) = matched_same Γ k f g (part_a types x.type) h r pat
