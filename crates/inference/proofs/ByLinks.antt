-- Inference by links comes to what inference of the tree does; only it names the record that is faulty.
use Prim.Native.Nat.{ℕ, zero, suc, ◌+◌, ◌≤◌, ◌<◌}
use native.Mathlib.Omega.{arith}
use mathlib.Core.List.{List, [], ◌∷◌}
use mathlib.Core.Bool.{Bool, true, false}
use mathlib.Core.Option.{Option, none, some}
use mathlib.Core.Path.{◌≡◌, refl, ap, sym, ◌∙◌}
use lib.ListN.{length}
use Rattle.rules.specs.Lists.{pick, mapped}
use Rattle.rules.specs.Kinds.{number, Kind, leaf₀, unary₁, binary₂, ternary₃, kind_of}
use Rattle.rules.specs.Terms.{Fields, Term, leaf, type_of}
use Rattle.rules.specs.Binders.{over_first, over_second}
use Rattle.rules.specs.Types.{Table}
use Rattle.rules.specs.Conditions.{Rule, Holds, holds, at_least}
use Rattle.rules.specs.FieldUses.{formed_besides}
use Rattle.rules.specs.Typing.{Env, under, first_level, bound, placed, typed}
use Rattle.rules.specs.Format.{Record, record_no, most_types}
use Rattle.rules.specs.Links.{first_of, next_of, node, tree_of}
use Rattle.rules.specs.Refusals.{Refusal, bad_index, bad_level, bad_type, table_full, unless, ◌then◌}
use Rattle.rules.specs.Check.{children, children_rule, type_no, judged}
use Rattle.inference.specs.Inference.{retyped, cleared, Formed, wanted, table_for, number_for, Inference, faulty, filled, unless_refused, ◌and_then◌, in_order, assigned, no_term, inferred, inferred_from}
use Rattle.inference.proofs.Outcomes.{Fills, Reaches}
use Rattle.inference.proofs.Cleared.{cleared_node}
use Rattle.rules.proofs.Tree.{first_le, first_above, second_above, third_above, next_le, next_from}

-- The same with no place.
abbrev unmarked : Option Refusal → Option Refusal
unmarked = mapped (λ r. record { number = r.number; place = 0 })

abbrev pub placeless : Inference → Inference
placeless (faulty r) = faulty (record { number = r.number; place = 0 })
placeless (filled A t) = filled A t

-- What is filled, or reached, without places is so with them.
pub placeless_fills : (P : Table → Term → Type 0) (o : Inference) → Fills P (placeless o) → Fills P o
placeless_fills P (faulty r) h = tt
placeless_fills P (filled A t) h = h

pub placeless_reaches : (P : Table → Term → Type 0) (o : Inference) → Reaches P (placeless o) → Reaches (λ _ _. Unit {0}) o
placeless_reaches P (faulty r) h = h
placeless_reaches P (filled A t) h = tt

unmarked_unless : (r : Rule) (n place : ℕ) → unmarked (unless r n place) ≡ unless r n 0
unfolding unless
unmarked_unless r n place = go (holds r)
  where
    go : (b : Bool) → unmarked (pick b none (some (record { number = n; place = place }))) ≡ pick b none (some (record { number = n; place = 0 }))
    go true = refl
    go false = refl

unmarked_then : (x y x' y' : Option Refusal) → unmarked x ≡ x' → unmarked y ≡ y' → unmarked (x then y) ≡ x' then y'
unfolding ◌then◌
unmarked_then none y x' y' e d = d ∙ ap (λ x. x then y') e
unmarked_then (some r) y x' y' e d = ap (λ x. x then y') e

placeless_unless : (o o' : Option Refusal) (A : Table) (t : Term) → unmarked o ≡ o' → placeless (unless_refused o (filled A t)) ≡ unless_refused o' (filled A t)
unfolding unless_refused
placeless_unless none o' A t e = ap (λ o. unless_refused o (filled A t)) e
placeless_unless (some r) o' A t e = ap (λ o. unless_refused o (filled A t)) e

assigned_placeless : (A : Table) (Γ : Env) (l : ℕ) (k : Kind) (f : Fields) (place : ℕ) (c s e : Term)
    → placeless (assigned A Γ l k f place c s e) ≡ assigned A Γ l k f 0 c s e
unfolding assigned judged
assigned_placeless A Γ l k f place c s e =
    let w = wanted A Γ k f (type_of c) (type_of s) in
    let B = table_for A w in
    let g = retyped (number_for A w) f in
    placeless_unless _ _ B (node k g c s e)
    (unmarked_then _ _ _ _
    (unmarked_then _ _ _ _ (unmarked_unless (bound Γ k g) bad_index place)
    (unmarked_then _ _ _ _ (unmarked_unless (placed Γ l k g) bad_level place) (unmarked_unless (typed B Γ k g (type_of c) (type_of s) (type_of e)) bad_type place)))
    (unmarked_unless (at_least (length B) most_types ∷ []) table_full place))

placeless_then : (o : Inference) (g : Table → Term → Inference) → placeless (o and_then g) ≡ (placeless o and_then λ A t. placeless (g A t))
unfolding ◌and_then◌
placeless_then (faulty r) g = refl
placeless_then (filled A t) g = refl

placeless_three : (C S E : Table → Inference) (g : Table → Term → Term → Term → Inference) (A : Table)
    → placeless (in_order C S E g A) ≡ in_order (λ A. placeless (C A)) (λ A. placeless (S A)) (λ A. placeless (E A)) (λ A c s e. placeless (g A c s e)) A
placeless_three C S E g A =
    placeless_then (C A) (λ A₁ c. S A₁ and_then λ A₂ s. E A₂ and_then λ A₃ e. g A₃ c s e)
    ∙ (λ i. placeless (C A) and_then λ A₁ c. (placeless_then (S A₁) (λ A₂ s. E A₂ and_then λ A₃ e. g A₃ c s e) i))
    ∙ (λ i. placeless (C A) and_then λ A₁ c. placeless (S A₁) and_then λ A₂ s. placeless_then (E A₂) (λ A₃ e. g A₃ c s e) i)

-- A child inferred by links, which is there or not.
pub record ByLink (c : ℕ) (C : Table → Inference) (Γ : Env) (l : ℕ) (t : Term) : Type 0 where
  pub there : 0 < c → (A : Table) → placeless (C A) ≡ inferred A Γ l t
  pub gone : c ≡ 0 → (A : Table) → placeless (C A) ≡ filled A no_term

none_from : (m n : ℕ) → (0 < n → 0 < m) → m ≡ 0 → n ≡ 0
none_from m zero i e = refl
none_from m (suc n) i e = absurd (omega (arith, i (omega arith)))

node_tree : (k : Kind) (f : Fields) (place : ℕ) (Γ : Env) (l : ℕ) (C S E : Table → Inference) (tc ts te : Term) (c s e x : ℕ) → Holds (children k c s e x)
    → (0 < s → 0 < c) → (0 < e → 0 < s)
    → ByLink c C (under l (over_first k f) Γ) (first_level k l) tc → ByLink s S (under 0 (over_second k f) Γ) l ts → ByLink e E Γ l te
    → (A : Table) → placeless (in_order C S E (λ B c s e. assigned B Γ l k f place c s e) A) ≡ inferred A Γ l (node k f tc ts te)
unfolding inferred
node_tree (leaf₀ k) f place Γ l C S E tc ts te c s e x (h, _) p q hc hs he A =
    let z = none_from c s p h in
    let z' = none_from s e q z in
    placeless_three C S E _ A
    ∙ (λ i. in_order (λ A. hc.gone h A i) (λ A. hs.gone z A i) (λ A. he.gone z' A i) (λ A c s e. assigned_placeless A Γ l (leaf₀ k) f place c s e i) A)
node_tree (unary₁ k) f place Γ l C S E tc ts te c s e x (h, (z, _)) p q hc hs he A =
    let z' = none_from s e q z in
    placeless_three C S E _ A
    ∙ (λ i. in_order (λ A. hc.there h A i) (λ A. hs.gone z A i) (λ A. he.gone z' A i) (λ A c s e. assigned_placeless A Γ l (unary₁ k) f place c s e i) A)
node_tree (binary₂ k) f place Γ l C S E tc ts te c s e x (h, (h', (z, _))) p q hc hs he A =
    placeless_three C S E _ A
    ∙ (λ i. in_order (λ A. hc.there h A i) (λ A. hs.there h' A i) (λ A. he.gone z A i) (λ A c s e. assigned_placeless A Γ l (binary₂ k) f place c s e i) A)
node_tree (ternary₃ k) f place Γ l C S E tc ts te c s e x (h, (h', (h'', _))) p q hc hs he A =
    placeless_three C S E _ A
    ∙ (λ i. in_order (λ A. hc.there h A i) (λ A. hs.there h' A i) (λ A. he.there h'' A i) (λ A c s e. assigned_placeless A Γ l (ternary₃ k) f place c s e i) A)

node_formed : (A : Table) (k : Kind) (f : Fields) (tc ts te : Term) (c s e x : ℕ) → Holds (children k c s e x) → Holds (formed_besides A k f) → (0 < c → Formed A tc)
    → (0 < s → Formed A ts) → (0 < e → Formed A te)
    → Formed A (node k f tc ts te)
unfolding Formed
node_formed A (leaf₀ k) f tc ts te c s e x h o p q r = o
node_formed A (unary₁ k) f tc ts te c s e x (h, _) o p q r = (o, p h)
node_formed A (binary₂ k) f tc ts te c s e x (h, (i, _)) o p q r = (o, p h, q i)
node_formed A (ternary₃ k) f tc ts te c s e x (h, (i, (j, _))) o p q r = (o, p h, q i, r j)

module _ (rs : List Record) where
  none_inferred : (left n : ℕ) (A : Table) (Γ : Env) (l : ℕ) → n ≡ 0 → placeless (inferred_from left A rs Γ l n) ≡ filled A no_term
  unfolding inferred_from
  none_inferred zero n A Γ l e = refl
  none_inferred (suc left) zero A Γ l e = refl
  none_inferred (suc left) (suc n) A Γ l e = absurd (omega arith)

  -- A tree whose types are all 0 is cleared already.
  pub tree_cleared : ((n : ℕ) → type_no rs n ≡ 0) → (left n : ℕ) → cleared (tree_of left rs n) ≡ tree_of left rs n
  unfolding tree_of cleared
  tree_cleared unwritten zero n = ap (λ m. leaf number (retyped m (record_no rs n).fields)) (sym (unwritten n))
  tree_cleared unwritten (suc left) zero = refl
  tree_cleared unwritten (suc left) (suc m) =
      let n = suc m in
      let f = (record_no rs n).fields in
      let k = kind_of (record_no rs n).kind in
      let c = first_of rs n in
      let s = next_of rs c in
      let e = next_of rs s in
      let t = sym (unwritten n) in
      let x = tree_cleared unwritten left c in
      let y = tree_cleared unwritten left s in
      let z = tree_cleared unwritten left e in
      cleared_node k f (tree_of left rs c) (tree_of left rs s) (tree_of left rs e) ∙ (λ i. node k (retyped (t i) f) (x i) (y i) (z i))

  module _ (chained : (n : ℕ) → 1 ≤ n → n < 1 + length rs → Holds (children_rule rs n)) where
    pub inferred_by_links : (left n : ℕ) (A : Table) (Γ : Env) (l : ℕ) → 0 < n → n ≤ length rs → length rs < n + left
        → placeless (inferred_from left A rs Γ l n) ≡ inferred A Γ l (tree_of left rs n)
    unfolding inferred_from tree_of
    inferred_by_links zero n A Γ l z b r = absurd (omega arith)
    inferred_by_links (suc left) zero A Γ l z b r = absurd (omega arith)
    inferred_by_links (suc left) (suc m) A Γ l z b r =
        let n = suc m in
        let f = (record_no rs n).fields in
        let k = kind_of (record_no rs n).kind in
        let c = first_of rs n in
        let s = next_of rs c in
        let e = next_of rs s in
        node_tree k f n Γ l
        (λ A. inferred_from left A rs (under l (over_first k f) Γ) (first_level k l) c)
        (λ A. inferred_from left A rs (under 0 (over_second k f) Γ) l s)
        (λ A. inferred_from left A rs Γ l e)
        (tree_of left rs c) (tree_of left rs s) (tree_of left rs e) c s e (next_of rs e) (chained n z (omega arith)) (next_from rs c) (next_from rs s)
        record {
          there = λ p A. inferred_by_links left c A _ _ p (first_le rs n) (omega (arith, first_above rs n p));
          gone = λ z A. none_inferred left c A _ _ z;
        }
        record {
          there = λ p A. inferred_by_links left s A _ _ p (next_le rs c) (omega (arith, second_above rs n p));
          gone = λ z A. none_inferred left s A _ _ z;
        }
        record {
          there = λ p A. inferred_by_links left e A _ _ p (next_le rs s) (omega (arith, third_above rs n p));
          gone = λ z A. none_inferred left e A _ _ z;
        }
        A

    pub tree_formed : (A : Table) → ((n : ℕ) → 1 ≤ n → n < 1 + length rs → Holds (formed_besides A (kind_of (record_no rs n).kind) (record_no rs n).fields))
        → (left n : ℕ) → 0 < n → n ≤ length rs → length rs < n + left → Formed A (tree_of left rs n)
    unfolding tree_of
    tree_formed A formed zero n z b r = absurd (omega arith)
    tree_formed A formed (suc left) zero z b r = absurd (omega arith)
    tree_formed A formed (suc left) (suc m) z b r =
        let n = suc m in
        let c = first_of rs n in
        let s = next_of rs c in
        let e = next_of rs s in
        node_formed A (kind_of (record_no rs n).kind) (record_no rs n).fields (tree_of left rs c) (tree_of left rs s) (tree_of left rs e) c s e (next_of rs e)
        (chained n z (omega arith)) (formed n z (omega arith))
        (λ p. tree_formed A formed left c p (first_le rs n) (omega (arith, first_above rs n p)))
        (λ p. tree_formed A formed left s p (next_le rs c) (omega (arith, second_above rs n p)))
        (λ p. tree_formed A formed left e p (next_le rs s) (omega (arith, third_above rs n p)))
