-- What check passes: the links make one tree of all the records, and it is typed.
use Prim.Native.Nat.{ℕ, zero, suc, ◌+◌, ◌*◌, ◌≤◌, ◌<◌}
use native.Mathlib.Omega.{arith}
use native.Mathlib.Nat.{add-mul}
use mathlib.Core.List.{List, [], ◌∷◌}
use mathlib.Core.Bool.{Bool, true, false, ◌&&◌}
use mathlib.Core.Option.{none}
use mathlib.Core.Path.{◌≡◌, refl, ap, sym, ◌∙◌}
use lib.Dec.{T, ltb, leb, eqb, ltb→lt, leb→le, eqb→eq}
use lib.ListN.{length}
use mir.Facts.{and_yes}
use Rattle.rules.specs.Lists.{pick, total}
use Rattle.rules.specs.Kinds.{number, variable, Kind, leaf₀, unary₁, binary₂, ternary₃, kind_of}
use Rattle.rules.specs.Terms.{Fields, Term, fields_of, type_of, size}
use Rattle.rules.specs.Binders.{over_first, over_second}
use Rattle.rules.specs.Types.{Table}
use Rattle.rules.specs.Conditions.{Holds, equal}
use Rattle.rules.specs.FieldUses.{given}
use Rattle.rules.specs.Typing.{Env, under, Judged, Typed, first_level}
use Rattle.rules.specs.Format.{Record, record_no}
use Rattle.rules.specs.Links.{named, first_of, next_of, node, tree_of, root_tree}
use Rattle.rules.specs.Editions.{Edition}
use Rattle.rules.specs.Refusals.{bad_index, bad_level, bad_type}
use Rattle.rules.specs.Check.{fields_rule, is, links_rule, children, children_rule, type_no, judged, walked, naming}
use Rattle.rules.proofs.General.{picked, is_false}
use Rattle.rules.proofs.Tests.{both_pass, pass_both, holds_unless, unless_holds}
use Rattle.rules.proofs.Sums.{total_ext, total_add, total_ones, counted_twice, is_other, total_none}

-- A link names a record above its own, and of the list.
named_le : (R n l : ℕ) → named R n l ≤ R
named_le R n l = picked (λ x. x ≤ R) (ltb n l && leb l R) (λ t. leb→le l R (and_yes (ltb n l) (leb l R) t).1) (λ _. omega arith)

named_above : (R n l : ℕ) → 0 < named R n l → n < named R n l
named_above R n l = picked (λ x. 0 < x → n < x) (ltb n l && leb l R) (λ t _. ltb→lt n l (and_yes (ltb n l) (leb l R) t).0) (λ _ h. absurd (omega arith))

not_root : (n x : ℕ) → 1 ≤ n → (0 < x → n < x) → is x 1 ≡ 0
not_root n x h k = is_other x 1 (λ e. omega (arith, k (omega arith)))

pub fields_node : (k : Kind) (f : Fields) (c s e : Term) → fields_of (node k f c s e) ≡ f
fields_node (leaf₀ k) f c s e = refl
fields_node (unary₁ k) f c s e = refl
fields_node (binary₂ k) f c s e = refl
fields_node (ternary₃ k) f c s e = refl

module _ (rs : List Record) where
  pub first_le : (n : ℕ) → first_of rs n ≤ length rs
  first_le n = named_le (length rs) n (record_no rs n).first

  pub first_above : (n : ℕ) → 0 < first_of rs n → n < first_of rs n
  first_above n = named_above (length rs) n (record_no rs n).first

  pub next_le : (n : ℕ) → next_of rs n ≤ length rs
  next_le n = picked (λ x. x ≤ length rs) (eqb n 1) (λ _. omega arith) (λ _. named_le (length rs) n (record_no rs n).next)

  pub next_above : (n : ℕ) → 0 < next_of rs n → n < next_of rs n
  next_above n = picked (λ x. 0 < x → n < x) (eqb n 1) (λ _ h. absurd (omega arith)) (λ _. named_above (length rs) n (record_no rs n).next)

  -- No link names the root, as links go up.
  pub root_unnamed : naming rs 1 ≡ 0
  root_unnamed = total_none _ 1 (length rs) (λ n h. omega (arith, not_root n (first_of rs n) h (first_above n), not_root n (next_of rs n) h (next_above n)))

  -- Named as often as rule 8 asks.
  pub named_often : (m : ℕ) → Holds (pick (eqb m 1) [] (equal (naming rs m) 1 ∷ [])) → naming rs m ≡ pick (eqb m 1) 0 1
  named_often m h = go (eqb m 1) (eqb→eq m 1) h
    where
      go : (b : Bool) → (T b → m ≡ 1) → Holds (pick b [] (equal (naming rs m) 1 ∷ [])) → naming rs m ≡ pick b 0 1
      go true e h = rw (e tt) root_unnamed
      go false e (h, _) = h

  pub next_from : (n : ℕ) → 0 < next_of rs n → 0 < n
  next_from zero h = absurd (omega arith)
  next_from (suc n) h = omega arith

  -- The later children of a record are above it too.
  pub second_above : (n : ℕ) → 0 < next_of rs (first_of rs n) → n < next_of rs (first_of rs n)
  second_above n h = let c = first_of rs n in omega (arith, next_above c h, first_above n (next_from c h))

  pub third_above : (n : ℕ) → 0 < next_of rs (next_of rs (first_of rs n)) → n < next_of rs (next_of rs (first_of rs n))
  third_above n h = let s = next_of rs (first_of rs n) in omega (arith, next_above s h, second_above n (next_from s h))

  pub tree_type : (left n : ℕ) → type_of (tree_of left rs n) ≡ type_no rs n
  unfolding tree_of
  tree_type zero n = refl
  tree_type (suc left) zero = refl
  tree_type (suc left) (suc n) = ap (λ f. f.type) (fields_node (kind_of (record_no rs (suc n)).kind) (record_no rs (suc n)).fields _ _ _)

  -- Typed
  module _ (types : Table) where
    node_typed : (k : Kind) (f : Fields) (Γ : Env) (l : ℕ) (tc ts te : Term) (c s e x : ℕ) → Holds (children k c s e x)
        → Judged types Γ l k f (type_of tc) (type_of ts) (type_of te)
        → (0 < c → Typed types (under l (over_first k f) Γ) (first_level k l) tc)
        → (0 < s → Typed types (under 0 (over_second k f) Γ) l ts)
        → (0 < e → Typed types Γ l te) → Typed types Γ l (node k f tc ts te)
    unfolding Typed
    node_typed (leaf₀ number) f Γ l tc ts te c s e x h j p q r = j
    node_typed (leaf₀ variable) f Γ l tc ts te c s e x h j p q r = j
    node_typed (unary₁ k) f Γ l tc ts te c s e x (h, _) j p q r = (j, p h)
    node_typed (binary₂ k) f Γ l tc ts te c s e x (h, (i, _)) j p q r = (j, p h, q i)
    node_typed (ternary₃ k) f Γ l tc ts te c s e x (h, (i, (o, _))) j p q r = (j, p h, q i, r o)

    node_judged : (k : Kind) (f : Fields) (Γ : Env) (l : ℕ) (tc ts te : Term) (c s e x : ℕ) → Holds (children k c s e x) → (0 < s → 0 < c) → (0 < e → 0 < s)
        → Typed types Γ l (node k f tc ts te)
        → Judged types Γ l k f (type_of tc) (type_of ts) (type_of te)
        × (0 < c → Typed types (under l (over_first k f) Γ) (first_level k l) tc)
        × (0 < s → Typed types (under 0 (over_second k f) Γ) l ts)
        × (0 < e → Typed types Γ l te)
    unfolding Typed
    node_judged (leaf₀ number) f Γ l tc ts te c s e x (h, _) p q j = (j, λ i. absurd (omega arith), λ i. absurd (omega (arith, p i)), λ i. absurd (omega (arith, p (q i))))
    node_judged (leaf₀ variable) f Γ l tc ts te c s e x (h, _) p q j = (j, λ i. absurd (omega arith), λ i. absurd (omega (arith, p i)), λ i. absurd (omega (arith, p (q i))))
    node_judged (unary₁ k) f Γ l tc ts te c s e x (_, (h, _)) p q (j, y) = (j, λ i. y, λ i. absurd (omega arith), λ i. absurd (omega (arith, q i)))
    node_judged (binary₂ k) f Γ l tc ts te c s e x (_, (_, (h, _))) p q (j, y, z) = (j, λ i. y, λ i. z, λ i. absurd (omega arith))
    node_judged (ternary₃ k) f Γ l tc ts te c s e x h p q (j, y, z, w) = (j, λ i. y, λ i. z, λ i. w)

    module _ (edition : Edition) (formed : (n : ℕ) → 1 ≤ n → n < 1 + length rs → Holds (fields_rule given edition types (record_no rs n))) (chained : (n : ℕ) → 1 ≤ n → n < 1 + length rs → Holds (children_rule rs n)) where
      pub walk_typed : (left n : ℕ) (Γ : Env) (l : ℕ) → 0 < n → n ≤ length rs → length rs < n + left → walked left types rs Γ l n ≡ none → Typed types Γ l (tree_of left rs n)
      unfolding walked judged tree_of
      walk_typed zero n Γ l z b r h = absurd (omega arith)
      walk_typed (suc left) zero Γ l z b r h = absurd (omega arith)
      walk_typed (suc left) (suc m) Γ l z b r h =
          let n = suc m in
          let f = (record_no rs n).fields in
          let k = kind_of (record_no rs n).kind in
          let c = first_of rs n in
          let s = next_of rs c in
          let e = next_of rs s in
          let (own, h₁) = both_pass _ _ h in
          let (h10, h₂) = both_pass _ _ own in
          let (h11, h12) = both_pass _ _ h₂ in
          let (hc, h₃) = both_pass _ _ h₁ in
          let (hs, he) = both_pass _ _ h₃ in
          node_typed k f Γ l (tree_of left rs c) (tree_of left rs s) (tree_of left rs e) c s e (next_of rs e) (chained n z (omega arith))
          ((formed n z (omega arith)).1, holds_unless _ bad_index n h10, holds_unless _ bad_level n h11, rw (tree_type, tree_type, tree_type) (holds_unless _ bad_type n h12))
          (λ p. walk_typed left c _ _ p (first_le n) (omega (arith, first_above n p)) hc)
          (λ p. walk_typed left s _ _ p (next_le c) (omega (arith, second_above n p)) hs)
          (λ p. walk_typed left e _ _ p (next_le s) (omega (arith, third_above n p)) he)

    module _ (chained : (n : ℕ) → 1 ≤ n → n < 1 + length rs → Holds (children_rule rs n)) where
      pub typed_walk : (left n : ℕ) (Γ : Env) (l : ℕ) → n ≤ length rs → (0 < n → Typed types Γ l (tree_of left rs n)) → walked left types rs Γ l n ≡ none
      unfolding walked judged tree_of
      typed_walk zero n Γ l b h = refl
      typed_walk (suc left) zero Γ l b h = refl
      typed_walk (suc left) (suc m) Γ l b h =
          let n = suc m in
          let f = (record_no rs n).fields in
          let k = kind_of (record_no rs n).kind in
          let c = first_of rs n in
          let s = next_of rs c in
          let e = next_of rs s in
          let ((_, j10, j11, j12), y, z, w) = node_judged k f Γ l (tree_of left rs c) (tree_of left rs s) (tree_of left rs e) c s e (next_of rs e) (chained n (omega arith) (omega arith)) (next_from c) (next_from s) (h (omega arith)) in
          pass_both (pass_both (unless_holds _ bad_index n j10) (pass_both (unless_holds _ bad_level n j11) (unless_holds _ bad_type n (rw (tree_type, tree_type, tree_type) at j12))))
          (pass_both (typed_walk left c _ _ (first_le n) y) (pass_both (typed_walk left s _ _ (next_le c) z) (typed_walk left e _ _ (next_le s) w)))

  -- The records that the links reach from record n, in `left` generations at most.
  reached : ℕ → ℕ → ℕ
  reached zero n = 0
  reached (suc left) zero = 0
  reached (suc left) (suc n) = 1 + reached left (first_of rs (suc n)) + reached left (next_of rs (suc n))

  steady : (left n : ℕ) → n ≤ length rs → (0 < n → length rs < n + left) → reached left n ≡ reached (suc left) n
  unfolding reached
  steady zero zero b r = refl
  steady zero (suc n) b r = absurd (omega (arith, r (omega arith)))
  steady (suc left) zero b r = refl
  steady (suc left) (suc n) b r =
      let k = r (omega arith) in
      omega (
        arith,
        steady left (first_of rs (suc n)) (first_le (suc n)) (λ p. omega (arith, first_above (suc n) p)),
        steady left (next_of rs (suc n)) (next_le (suc n)) (λ p. omega (arith, next_above (suc n) p)),
      )

  -- The records of a chain from record n on: those of its tree and of the trees of the siblings that follow it.
  pub chain_size : ℕ → ℕ
  chain_size n = reached (length rs) n

  pub chain_none : chain_size 0 ≡ 0
  unfolding chain_size reached
  chain_none = go (length rs)
    where
      go : (left : ℕ) → reached left 0 ≡ 0
      go zero = refl
      go (suc left) = refl

  pub chain_step : (n : ℕ) → 0 < n → n ≤ length rs → chain_size n ≡ 1 + chain_size (first_of rs n) + chain_size (next_of rs n)
  unfolding chain_size reached
  chain_step zero z b = absurd (omega arith)
  chain_step (suc n) z b = steady (length rs) (suc n) b (λ _. omega arith)

  node_size : (k : Kind) (f : Fields) (tc ts te : Term) (c s e x : ℕ) → Holds (children k c s e x)
      → (0 < c → size tc + chain_size s ≡ chain_size c) → (0 < s → size ts + chain_size e ≡ chain_size s) → (0 < e → size te + chain_size x ≡ chain_size e) → size (node k f tc ts te) ≡ 1 + chain_size c
  unfolding size
  node_size (leaf₀ k) f tc ts te c s e x (h, _) p q r = rw h (omega (arith, chain_none))
  node_size (unary₁ k) f tc ts te c s e x (h, (i, _)) p q r = omega (arith, p h, chain_none, ap chain_size i)
  node_size (binary₂ k) f tc ts te c s e x (h, (i, (j, _))) p q r = omega (arith, p h, q i, chain_none, ap chain_size j)
  node_size (ternary₃ k) f tc ts te c s e x (h, (i, (j, (o, _)))) p q r = omega (arith, p h, q i, r j, chain_none, ap chain_size o)

  module _ (chained : (n : ℕ) → 1 ≤ n → n < 1 + length rs → Holds (children_rule rs n)) where
    pub tree_size_lem : (left n : ℕ) → 0 < n → n ≤ length rs → length rs < n + left → size (tree_of left rs n) + chain_size (next_of rs n) ≡ chain_size n
    unfolding tree_of
    tree_size_lem zero n z b r = absurd (omega arith)
    tree_size_lem (suc left) zero z b r = absurd (omega arith)
    tree_size_lem (suc left) (suc m) z b r =
        let n = suc m in
        let c = first_of rs n in
        let s = next_of rs c in
        let e = next_of rs s in
        omega (
          arith,
          chain_step n z b,
          node_size (kind_of (record_no rs n).kind) (record_no rs n).fields (tree_of left rs c) (tree_of left rs s) (tree_of left rs e) c s e (next_of rs e) (chained n z (omega arith))
              (λ p. tree_size_lem left c p (first_le n) (omega (arith, first_above n p)))
              (λ p. tree_size_lem left s p (next_le c) (omega (arith, second_above n p)))
              (λ p. tree_size_lem left e p (next_le s) (omega (arith, third_above n p))),
        )

    -- Each record but the root is named once, so the chains that the links name have as many records together as those of all records but the root.
    module _ (linked : (n : ℕ) → 1 ≤ n → n < 1 + length rs → Holds (links_rule rs n)) where
      named_once : (m : ℕ) → 1 ≤ m → m < 1 + length rs
          → total (λ n. is (first_of rs n) m) 1 (length rs) * chain_size m + total (λ n. is (next_of rs n) m) 1 (length rs) * chain_size m ≡ pick (eqb m 1) 0 1 * chain_size m
      named_once m i j =
          let f : ℕ → ℕ = λ n. is (first_of rs n) m in
          let g : ℕ → ℕ = λ n. is (next_of rs n) m in
          sym (add-mul (total f 1 (length rs)) (total g 1 (length rs)) (chain_size m)) ∙ ap (λ x. x * chain_size m) (sym (total_add f g 1 (length rs)) ∙ named_often m (linked m i j).1.1)

      summed : total chain_size 1 (length rs) ≡ length rs + total (λ m. pick (eqb m 1) 0 1 * chain_size m) 1 (length rs)
      summed =
          let R = length rs in
          omega (
            arith,
            total_ext chain_size (λ n. 1 + chain_size (first_of rs n) + chain_size (next_of rs n)) 1 R (λ n i j. chain_step n i (omega arith)),
            total_add (λ n. 1 + chain_size (first_of rs n)) (λ n. chain_size (next_of rs n)) 1 R,
            total_add (λ n. 1) (λ n. chain_size (first_of rs n)) 1 R,
            total_ones 1 R,
            counted_twice (first_of rs) chain_size R chain_none first_le,
            counted_twice (next_of rs) chain_size R chain_none next_le,
            total_add (λ m. total (λ n. is (first_of rs n) m) 1 R * chain_size m) (λ m. total (λ n. is (next_of rs n) m) 1 R * chain_size m) 1 R,
            total_ext (λ m. total (λ n. is (first_of rs n) m) 1 R * chain_size m + total (λ n. is (next_of rs n) m) 1 R * chain_size m) (λ m. pick (eqb m 1) 0 1 * chain_size m) 1 R named_once,
          )

      but_root : (R : ℕ) → 0 < R → total chain_size 1 R ≡ R + total (λ m. pick (eqb m 1) 0 1 * chain_size m) 1 R → chain_size 1 ≡ R
      unfolding total
      but_root zero z h = absurd (omega arith)
      but_root (suc R) z h = omega (arith, total_ext (λ m. pick (eqb m 1) 0 1 * chain_size m) chain_size 2 R (λ m i j. rw (is_false (eqb m 1) (λ t. omega (arith, eqb→eq m 1 t))) (omega arith)))

      pub whole_size : 0 < length rs → size (root_tree rs) ≡ length rs
      whole_size z = omega (arith, tree_size_lem (length rs) 1 (omega arith) z (omega arith), chain_none, but_root (length rs) z summed)
