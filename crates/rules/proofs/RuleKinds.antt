-- The kinds that the step rules name, of a record that is rewritten and of the code that a match looks for; and the rules' numbers by them.
use Prim.Native.Nat.{ℕ, ◌+◌, ◌*◌, ◌≤◌}
use native.Mathlib.Omega.{arith}
use mathlib.Core.List.{List}
use mathlib.Core.Bool.{Bool, true, ◌&&◌}
use mathlib.Core.Option.{Option, none, some}
use mathlib.Core.Path.{◌≡◌, refl, ap, sym, subst, ◌∙◌}
use lib.Dec.{T, eqb, eqb→eq}
use mir.Facts.{and_yes}
use Rattle.rules.specs.Kinds.{number, variable, function, fix, lift, quote, splice, application, Match, match_variable, match_shape, match_number, match_application, match_lift, match_function, match_fix, match, Kind, leaf₀, unary₁, binary₂, ternary₃, kind_number, kind_of, numbered}
use Rattle.rules.specs.Terms.{Fields, Term, leaf, unary, binary, ternary, root_kind, type_of, number_held}
use Rattle.rules.specs.Types.{Table, part_a}
use Rattle.rules.specs.Matching.{if_of_kind, matched, sought}
use Rattle.rules.specs.Contractions.{StepRule, on_application, on_fix, on_lift, on_splice, on_success, on_failure, success_number, Contraction, apply, unroll, lifted, spliced, succeeds, fails, contracts}
use Rattle.rules.proofs.General.{picked, Gives}
use Rattle.rules.proofs.KindTable.{kind_back}

-- The kind of the records that a rule rewrites.
abbrev pub rule_kind : StepRule → Kind
rule_kind on_application = binary₂ application
rule_kind on_fix = unary₁ fix
rule_kind on_lift = unary₁ lift
rule_kind on_splice = unary₁ splice
rule_kind (on_success k) = ternary₃ (match k)
rule_kind (on_failure k) = ternary₃ (match k)

pub rewrites_kind : {types : Table} {l n : ℕ} {r : StepRule} {t u : Term} → Contraction types l r n t u → root_kind t ≡ rule_kind r
rewrites_kind (apply f g b v p) = refl
rewrites_kind (unroll f g b) = refl
rewrites_kind (lifted f g) = refl
rewrites_kind (spliced f g c p) = refl
rewrites_kind (succeeds k f g c s e ts p m) = refl
rewrites_kind (fails k f g c s e p m) = refl

-- What a contraction rewrites is of a kind that the table says to be rewritten at its level.
pub contracts_kind : {types : Table} {l n : ℕ} {r : StepRule} {t u : Term} → Contraction types l r n t u → contracts l (root_kind t) ≡ true
contracts_kind (apply f g b v p) = refl
contracts_kind (unroll f g b) = refl
contracts_kind (lifted f g) = refl
contracts_kind (spliced f g c p) = refl
contracts_kind (succeeds k f g c s e ts p m) = refl
contracts_kind (fails k f g c s e p m) = refl

-- The matches are "the kinds 9 to 14", and their rules have the numbers "5 to 16 .., success before failure".
pub match_range : (k : Match) → (9 ≤ kind_number (ternary₃ (match k))) × (kind_number (ternary₃ (match k)) ≤ 14)
match_range match_variable = omega arith
match_range (match_shape match_number) = omega arith
match_range (match_shape match_application) = omega arith
match_range (match_shape match_lift) = omega arith
match_range (match_shape match_function) = omega arith
match_range (match_shape match_fix) = omega arith

pub success_number_lem : (k : Match) → success_number k + 13 ≡ 2 * kind_number (ternary₃ (match k))
success_number_lem match_variable = refl
success_number_lem (match_shape match_number) = refl
success_number_lem (match_shape match_application) = refl
success_number_lem (match_shape match_lift) = refl
success_number_lem (match_shape match_function) = refl
success_number_lem (match_shape match_fix) = refl

-- The match whose kind has number n. What stands for a number that no match's kind has is of no account.
abbrev match_of : Kind → Match
match_of (leaf₀ k) = match_variable
match_of (unary₁ k) = match_variable
match_of (binary₂ k) = match_variable
match_of (ternary₃ (match k)) = k

abbrev pub match_at : ℕ → Match
match_at n = match_of (kind_of n)

-- What holds of a match's answer by `if_of_kind`: the match is of kind n and the test holds, or the answer is `other`.
pub if_of_kind_lem : (P : Option (List Term) → Type 0) (k : Match) (n : ℕ) (test : Bool) (ts : List Term) (other : Option (List Term))
    → (k ≡ match_at n → T test → P (some ts)) → P other → P (if_of_kind k n test ts other)
if_of_kind_lem P k n test ts other h g = picked P (eqb (kind_number (ternary₃ (match k))) n && test)
    (λ b. let (i, t) = and_yes (eqb (kind_number (ternary₃ (match k))) n) test b in
    h (sym (ap match_of (kind_back (ternary₃ (match k)))) ∙ ap match_at (eqb→eq (kind_number (ternary₃ (match k))) n i)) t)
    (λ _. g)

-- A match succeeds only on code of the kind that it looks for.
module _ (types : Table) (k : Match) (f : Fields) where
  abbrev Seeks : Term → Option (List Term) → Type 0
  Seeks c o = Gives (λ _. root_kind c ≡ sought k) o

  takes_sought : (c : Term) → Seeks c (matched types k f c)
  unfolding matched kind_of numbered
  takes_sought (leaf number g) = if_of_kind_lem (Seeks (leaf number g)) k 9 (eqb (number_held g) (number_held f)) _ _ (λ e _. rw e) (if_of_kind_lem (Seeks (leaf number g)) k 12 true _ none (λ e _. rw e) tt)
  takes_sought (leaf variable g) = if_of_kind_lem (Seeks (leaf variable g)) k 10 (eqb g.a f.a) _ none (λ e _. rw e) tt
  takes_sought (unary function g t) = if_of_kind_lem (Seeks (unary function g t)) k 13 true _ none (λ e _. rw e) tt
  takes_sought (unary fix g t) = if_of_kind_lem (Seeks (unary fix g t)) k 14 true _ none (λ e _. rw e) tt
  takes_sought (unary lift g t) = tt
  takes_sought (unary quote g t) = tt
  takes_sought (unary splice g t) = tt
  takes_sought (binary application g t u) = if_of_kind_lem (Seeks (binary application g t u)) k 11 (eqb (type_of u) (part_a types f.b)) _ none (λ e _. rw e) tt
  takes_sought (ternary j g t s e) = tt

  pub seeks : (c : Term) (ts : List Term) → matched types k f c ≡ some ts → root_kind c ≡ sought k
  seeks c ts m = subst (Seeks c) m (takes_sought c)

  pub fails_unsought : (c : Term) → (root_kind c ≡ sought k → ⊥) → matched types k f c ≡ none
  fails_unsought c n = go (matched types k f c) (takes_sought c)
    where
      go : (o : Option (List Term)) → Seeks c o → o ≡ none
      go none h = refl
      go (some ts) h = absurd (n h)
