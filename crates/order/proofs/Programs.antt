-- Programs that differ just in table order or unused entries have the same first term, but for the numbers of types.
use Prim.Native.Nat.{ℕ, zero, suc, ◌+◌, ◌≤◌, ◌<◌}
use native.Mathlib.Omega.{arith}
use mathlib.Core.Bool.{◌&&◌}
use mathlib.Core.List.{List}
use mathlib.Core.Path.{◌≡◌, refl, ap, ap₂, ◌∙◌, subst}
use lib.Dec.{ltb, leb, eqb, ltb→lt, leb→le}
use lib.ListN.{length}
use mir.Facts.{and_yes}
use Rattle.rules.specs.Lists.{pick}
use Rattle.rules.specs.Kinds.{Kind, leaf₀, unary₁, binary₂, ternary₃, kind_of}
use Rattle.rules.specs.Terms.{Fields, Term}
use Rattle.rules.specs.Editions.{Edition}
use Rattle.rules.specs.Types.{Table}
use Rattle.rules.specs.FieldUses.{TypeFields}
use Rattle.rules.specs.Conditions.{Holds}
use Rattle.rules.specs.Format.{Record, table_of, records_of, record_no}
use Rattle.rules.specs.Links.{named, first_of, next_of, node, tree_of, first_term}
use Rattle.rules.specs.Check.{children, children_rule}
use Rattle.rules.specs.Meets.{MeetsLayout}
use Rattle.rules.proofs.General.{picked}
use Rattle.rules.proofs.Meaning.{records_counted, some_record}
use Rattle.order.specs.Alike.{Alike, leaves, unaries, binaries, ternaries, SameFields, SameRecord, SameProgram}

-- Two records of one kind, with as many children as it has.
node_alike : {R : Kind → Fields → Fields → Type 0} (k : Kind) (f g : Fields) (c s e x : ℕ) {t t' u u' v v' : Term} → Holds (children k c s e x) → R k f g
    → (0 < c → Alike R t t') → (0 < s → Alike R u u') → (0 < e → Alike R v v') → Alike R (node k f t u v) (node k g t' u' v')
node_alike (leaf₀ k) f g c s e x _ r h i j = leaves k f g r
node_alike (unary₁ k) f g c s e x (p, _) r h i j = unaries k f g r (h p)
node_alike (binary₂ k) f g c s e x (p, (q, _)) r h i j = binaries k f g r (h p) (i q)
node_alike (ternary₃ k) f g c s e x (p, (q, (w, _))) r h i j = ternaries k f g r (h p) (i q) (j w)

-- What a link names is above its record.
above : (R n l : ℕ) → 0 < named R n l → (n < named R n l) × (named R n l ≤ R)
above R n l = picked (λ m. 0 < m → (n < m) × (m ≤ R)) (ltb n l && leb l R) (λ t _. let (i, j) = and_yes (ltb n l) (leb l R) t in (ltb→lt n l i, leb→le l R j)) (λ _ h. absurd (omega arith))

above_next : (rs : List Record) (n : ℕ) → 0 < next_of rs n → (0 < n) × (n < next_of rs n) × (next_of rs n ≤ length rs)
above_next rs zero h = absurd (omega arith)
above_next rs (suc n) h = picked (λ m. 0 < m → (0 < suc n) × (suc n < m) × (m ≤ length rs)) (eqb (suc n) 1) (λ _ i. absurd (omega arith))
    (λ _ i. let (j, k) = above (length rs) (suc n) (record_no rs (suc n)).next i in (omega arith, j, k)) h

module _ (fields : TypeFields) (types types' : Table) (rs rs' : List Record) (count : length rs ≡ length rs')
    (same : (n : ℕ) → 1 ≤ n → n ≤ length rs → SameRecord fields types types' (record_no rs n) (record_no rs' n))
    (chained : (n : ℕ) → 1 ≤ n → n < 1 + length rs → Holds (children_rule rs n)) where
  first_same : (n : ℕ) → 1 ≤ n → n ≤ length rs → first_of rs n ≡ first_of rs' n
  first_same n h k = ap₂ (λ R l. named R n l) count (same n h k).first

  next_same : (n : ℕ) → 1 ≤ n → n ≤ length rs → next_of rs n ≡ next_of rs' n
  next_same n h k = ap₂ (λ R l. pick (eqb n 1) 0 (named R n l)) count (same n h k).next

  tree_same : (left n n' : ℕ) → n ≡ n' → 1 ≤ n → n ≤ length rs → length rs < n + left → Alike (SameFields fields types types') (tree_of left rs n) (tree_of left rs' n')
  unfolding tree_of
  tree_same zero n n' i h k l = absurd (omega arith)
  tree_same (suc left) zero n' i h k l = absurd (omega arith)
  tree_same (suc left) (suc n) n' i h k l =
      let c = first_of rs (suc n) in
      let s = next_of rs c in
      let e = next_of rs s in
      let c≡ = first_same (suc n) h k in
      rw (← i) (rw (← (same (suc n) h k).kind) (node_alike (kind_of (record_no rs (suc n)).kind) _ _ c s e (next_of rs e) (chained (suc n) h (omega arith)) (same (suc n) h k).same
      (λ p. let (a, b) = above (length rs) (suc n) (record_no rs (suc n)).first p in tree_same left c _ c≡ p b (omega arith))
      (λ q. let (p, a, b) = above_next rs c q in
      let (a', b') = above (length rs) (suc n) (record_no rs (suc n)).first p in
      tree_same left s _ (next_same c p b' ∙ ap (next_of rs') c≡) q b (omega arith))
      (λ w. let (q, a, b) = above_next rs s w in
      let (p, a', b') = above_next rs c q in
      let (a'', b'') = above (length rs) (suc n) (record_no rs (suc n)).first p in
      tree_same left e _ (next_same s q b' ∙ ap (next_of rs') (next_same c p b'' ∙ ap (next_of rs') c≡)) w b (omega arith))))

-- The first terms of two programs, of which one has a good layout.
pub same_first : (fields : TypeFields) (edition : Edition) (p q : List ℕ) → MeetsLayout fields edition p → SameProgram fields p q
    → Alike (SameFields fields (table_of p) (table_of q)) (first_term p) (first_term q)
same_first fields edition p q m same =
    let P = records_counted p in
    let R : length (records_of p) ≡ length (records_of q) = omega (arith, records_counted q, same.count) in
    subst (λ n. Alike (SameFields fields (table_of p) (table_of q)) (first_term p) (tree_of n (records_of q) 1)) R
    (tree_same fields (table_of p) (table_of q) (records_of p) (records_of q) R (λ n h k. same.records n h (omega arith)) m.form.chained (length (records_of p)) 1 1 refl (omega arith)
    (omega (arith, some_record fields edition p m)) (omega arith))
