-- A term laid in preorder: its records keep every rule, and the links make it again.
use Prim.Native.Nat.{ℕ, zero, suc, ◌+◌, ◌*◌, ◌≤◌, ◌<◌}
use native.Mathlib.Omega.{arith}
use native.Mathlib.Decide.{dec_lt, ℕ_discrete}
use mathlib.Core.List.{List, ◌∷◌, ◌++◌, append_assoc}
use mathlib.Core.Bool.{◌&&◌}
use mathlib.Core.Path.{◌≡◌, refl, ap, ap₂, sym, ◌∙◌}
use mathlib.Core.Logic.{◌⊎◌, inl, inr}
use lib.Dec.{ltb, leb, eqb, lt→ltb, le→leb, eqb→eq}
use lib.ListN.{length, get_or, drop, length-append}
use lib.Seq.{get_or-drop, drop-drop, drop-append_seam}
use mir.Facts.{yes_and}
use Rattle.rules.specs.Lists.{pick, total}
use Rattle.rules.specs.Kinds.{Kind, leaf₀, unary₁, binary₂, ternary₃, kind_of}
use Rattle.rules.specs.Terms.{Fields, Term, leaf, unary, binary, ternary, size}
use Rattle.rules.specs.Types.{Table}
use Rattle.rules.specs.Conditions.{Holds}
use Rattle.rules.specs.FieldUses.{given, formed}
use Rattle.rules.specs.Typing.{Env, Typed}
use Rattle.rules.specs.Format.{Record, no_record, record_no}
use Rattle.rules.specs.Links.{named, first_of, next_of, node, tree_of, linked, laid}
use Rattle.rules.specs.Editions.{Edition, HasEveryKind}
use Rattle.rules.specs.Check.{is, naming, fields_rule, children, children_rule}
use Rattle.rules.proofs.General.{picked, is_true, is_false}
use Rattle.rules.proofs.KindTable.{kind_back, kind_range}
use Rattle.rules.proofs.Sums.{total_ext, split₁, split₂, split₃, total_at, is_other, is_flip}

pub size_some : (t : Term) → 1 ≤ size t
unfolding size
size_some (leaf k f) = omega arith
size_some (unary k f t) = omega arith
size_some (binary k f t u) = omega arith
size_some (ternary k f t s e) = omega arith

pub length_laid : (n next : ℕ) (t : Term) → length (laid n next t) ≡ size t
unfolding laid size
length_laid n next (leaf k f) = refl
length_laid n next (unary k f t) = omega (arith, length_laid (n + 1) 0 t)
length_laid n next (binary k f t u) = rw length-append (omega (arith, length_laid (n + 1) (n + 1 + size t) t, length_laid (n + 1 + size t) 0 u))
length_laid n next (ternary k f t s e) = rw (length-append, length-append)
    (omega (arith, length_laid (n + 1) (n + 1 + size t) t, length_laid (n + 1 + size t) (n + 1 + size t + size s) s, length_laid (n + 1 + size t + size s) 0 e))

-- What stands at the front of the rest of a list.
module _ {A : Type 0} (l : List A) where
  front : (n : ℕ) (d : A) {x : A} {xs : List A} → drop n l ≡ x ∷ xs → (get_or l n d ≡ x) × (drop (n + 1) l ≡ xs)
  front n d h =
      let e : n + 0 ≡ n = omega arith in
      (rw e at (sym (get_or-drop n l 0 d)) ∙ ap (λ s. get_or s 0 d) h, sym (drop-drop 1 n l) ∙ ap (drop 1) h)

  pub beyond : (n : ℕ) (xs ys : List A) → drop n l ≡ xs ++ ys → drop (n + length xs) l ≡ ys
  beyond n xs ys h = sym (drop-drop (length xs) n l) ∙ (ap (drop (length xs)) h ∙ drop-append_seam xs ys)

-- A link that is in range, or none.
abbrev Right : ℕ → ℕ → ℕ → Type 0
Right R n l = (l ≡ 0) ⊎ ((n < l) × (l ≤ R))

named_right : (R n l : ℕ) → Right R n l → named R n l ≡ l
named_right R n l (inl e) = rw e (picked (λ x. x ≡ 0) (ltb n 0 && leb 0 R) (λ _. refl) (λ _. refl))
named_right R n l (inr (p, q)) = rw (is_true (ltb n l && leb l R) (yes_and (ltb n l) (leb l R) (lt→ltb n l p) (le→leb l R q)))

abbrev NextRight : ℕ → ℕ → ℕ → Type 0
NextRight R n l = (l ≡ 0) ⊎ ((1 < n) × (n < l) × (l ≤ R))

next_right : (R n l : ℕ) → NextRight R n l → pick (eqb n 1) 0 (named R n l) ≡ l
next_right R n l (inl e) = rw e (picked (λ x. x ≡ 0) (eqb n 1) (λ _. refl) (λ _. named_right R n 0 (inl refl)))
next_right R n l (inr (o, p, q)) = rw (is_false (eqb n 1) (λ t. omega (arith, eqb→eq n 1 t))) (named_right R n l (inr (p, q)))

module _ (rs : List Record) where
  -- Record n, with what its links name.
  pub record Node (n : ℕ) (k : Kind) (f : Fields) (first next : ℕ) : Type 0 where
    pub reads : record_no rs n ≡ linked k f first next
    pub to_first : first_of rs n ≡ first
    pub to_next : next_of rs n ≡ next

  -- The records from n on are those of t.
  abbrev pub Laid : ℕ → ℕ → Term → Type 0
  Laid n next (leaf k f) = Node n (leaf₀ k) f 0 next
  Laid n next (unary k f t) = Node n (unary₁ k) f (n + 1) next × Laid (n + 1) 0 t
  Laid n next (binary k f t u) = Node n (binary₂ k) f (n + 1) next × Laid (n + 1) (n + 1 + size t) t × Laid (n + 1 + size t) 0 u
  Laid n next (ternary k f t s e) =
      Node n (ternary₃ k) f (n + 1) next × Laid (n + 1) (n + 1 + size t) t × Laid (n + 1 + size t) (n + 1 + size t + size s) s × Laid (n + 1 + size t + size s) 0 e

  node_at : (n : ℕ) (k : Kind) (f : Fields) (first next : ℕ) → record_no rs n ≡ linked k f first next → Right (length rs) n first → NextRight (length rs) n next → Node n k f first next
  node_at n k f first next e p q = record {
    reads = e;
    to_first = ap (λ r. named (length rs) n r.first) e ∙ named_right (length rs) n first p;
    to_next = ap (λ r. pick (eqb n 1) 0 (named (length rs) n r.next)) e ∙ next_right (length rs) n next q;
  }

  pub laid_at : (t : Term) (n next : ℕ) (post : List Record) → drop n (no_record ∷ rs) ≡ laid n next t ++ post → 1 ≤ n → n + size t ≤ 1 + length rs → NextRight (length rs) n next → Laid n next t
  unfolding laid size
  laid_at (leaf k f) n next post h z b q = node_at n (leaf₀ k) f 0 next (front (no_record ∷ rs) n no_record h).0 (inl refl) q
  laid_at (unary k f t) n next post h z b q =
      let i = size_some t in
      let (e, d) = front (no_record ∷ rs) n no_record h in
      (node_at n (unary₁ k) f (n + 1) next e (inr (omega arith, omega arith)) q, laid_at t (n + 1) 0 post d (omega arith) (omega arith) (inl refl))
  laid_at (binary k f t u) n next post h z b q =
      let i = size_some t in
      let j = size_some u in
      let m = n + 1 + size t in
      let (e, d) = front (no_record ∷ rs) n no_record h in
      let d₁ = rw append_assoc at d in
      let d₂ = rw length_laid at (beyond (no_record ∷ rs) (n + 1) (laid (n + 1) m t) (laid m 0 u ++ post) d₁) in (
        node_at n (binary₂ k) f (n + 1) next e (inr (omega arith, omega arith)) q,
        laid_at t (n + 1) m (laid m 0 u ++ post) d₁ (omega arith) (omega arith) (inr (omega arith, omega arith, omega arith)),
        laid_at u m 0 post d₂ (omega arith) (omega arith) (inl refl),
      )
  laid_at (ternary k f t s e) n next post h z b q =
      let i = size_some t in
      let j = size_some s in
      let o = size_some e in
      let m = n + 1 + size t in
      let m' = m + size s in
      let (x, d) = front (no_record ∷ rs) n no_record h in
      let d₁ = rw (append_assoc, append_assoc) at d in
      let d₂ = rw length_laid at (beyond (no_record ∷ rs) (n + 1) (laid (n + 1) m t) (laid m m' s ++ (laid m' 0 e ++ post)) d₁) in
      let d₃ = rw length_laid at (beyond (no_record ∷ rs) m (laid m m' s) (laid m' 0 e ++ post) d₂) in (
        node_at n (ternary₃ k) f (n + 1) next x (inr (omega arith, omega arith)) q,
        laid_at t (n + 1) m (laid m m' s ++ (laid m' 0 e ++ post)) d₁ (omega arith) (omega arith) (inr (omega arith, omega arith, omega arith)),
        laid_at s m m' (laid m' 0 e ++ post) d₂ (omega arith) (omega arith) (inr (omega arith, omega arith, omega arith)),
        laid_at e m' 0 post d₃ (omega arith) (omega arith) (inl refl),
      )

  next_of_lem : (t : Term) (n next : ℕ) → Laid n next t → next_of rs n ≡ next
  next_of_lem (leaf k f) n next h = h.to_next
  next_of_lem (unary k f t) n next h = h.0.to_next
  next_of_lem (binary k f t u) n next h = h.0.to_next
  next_of_lem (ternary k f t s e) n next h = h.0.to_next

  module _ {n : ℕ} {k : Kind} {f : Fields} {first next : ℕ} (h : Node n k f first next) where
    kind_of_lem : kind_of (record_no rs n).kind ≡ k
    kind_of_lem = ap (λ r. kind_of r.kind) h.reads ∙ kind_back k

    fields_of_lem : (record_no rs n).fields ≡ f
    fields_of_lem = ap (λ r. r.fields) h.reads

  -- The tree.
  tree_node_lem : (left n : ℕ) {k : Kind} {f : Fields} {first next : ℕ} → 0 < n → Node n k f first next
      → tree_of (suc left) rs n ≡ node k f (tree_of left rs first) (tree_of left rs (next_of rs first)) (tree_of left rs (next_of rs (next_of rs first)))
  unfolding tree_of
  tree_node_lem left zero z h = absurd (omega arith)
  tree_node_lem left (suc n) z h = rw (h.to_first, kind_of_lem h, fields_of_lem h)

  pub tree_back : (left : ℕ) (t : Term) (n next : ℕ) → 0 < n → size t ≤ left → Laid n next t → tree_of left rs n ≡ t
  unfolding size
  tree_back zero t n next z b h = absurd (omega (arith, size_some t))
  tree_back (suc left) (leaf k f) n next z b h = tree_node_lem left n z h
  tree_back (suc left) (unary k f t) n next z b (h, i) = tree_node_lem left n z h ∙ ap (unary k f) (tree_back left t (n + 1) 0 (omega arith) (omega arith) i)
  tree_back (suc left) (binary k f t u) n next z b (h, i, j) =
      let m = n + 1 + size t in
      tree_node_lem left n z h
      ∙ ap₂ (binary k f) (tree_back left t (n + 1) m (omega arith) (omega arith) i)
      (ap (tree_of left rs) (next_of_lem t (n + 1) m i) ∙ tree_back left u m 0 (omega arith) (omega arith) j)
  tree_back (suc left) (ternary k f t s e) n next z b (h, i, j, o) =
      let m = n + 1 + size t in
      let m' = m + size s in
      let c = tree_back left t (n + 1) m (omega arith) (omega arith) i in
      let d = next_of_lem t (n + 1) m i in
      let c' = ap (tree_of left rs) d ∙ tree_back left s m m' (omega arith) (omega arith) j in
      let c'' = ap (tree_of left rs) (ap (next_of rs) d ∙ next_of_lem s m m' j) ∙ tree_back left e m' 0 (omega arith) (omega arith) o in
      tree_node_lem left n z h ∙ (λ i. ternary k f (c i) (c' i) (c'' i))

  module _ (edition : Edition) (all : HasEveryKind edition) (types : Table) where
    -- Rules 7 and 9, and the links of 8.
    pub record Good (n : ℕ) : Type 0 where
      pub fielded : Holds (fields_rule given edition types (record_no rs n))
      pub first_good : (record_no rs n).first ≡ first_of rs n
      pub next_good : (record_no rs n).next ≡ next_of rs n
      pub chained : Holds (children_rule rs n)

    node_good : (n : ℕ) {k : Kind} {f : Fields} {first next : ℕ} (s e x : ℕ) → Node n k f first next → next_of rs first ≡ s → next_of rs s ≡ e → next_of rs e ≡ x
        → Holds (formed types k f) → Holds (children k first s e x) → Good n
    node_good n {k} {f} {first} {next} s e x h p q r o c = record {
      fielded = rw h.reads (omega (arith, kind_range k), rw (kind_back k) o);
      first_good = ap (λ r. r.first) h.reads ∙ sym h.to_first;
      next_good = ap (λ r. r.next) h.reads ∙ sym h.to_next;
      chained = rw (kind_of_lem h, h.to_first) (rw (p, q, r) c);
    }

    pub each_good : (t : Term) (n next : ℕ) (Γ : Env) (l : ℕ) → Laid n next t → Typed types Γ l t → (m : ℕ) → n ≤ m → m < n + size t → Good m
    unfolding size Typed
    each_good (leaf k f) n next Γ l h j m a b = let d : m ≡ n = omega arith in rw d (node_good n 0 0 0 h refl refl refl j.0 (refl, tt))
    each_good (unary k f t) n next Γ l (h, i) ((o, _, _, _), x) m a b = elim (dec_lt n m) [
      | no y ↦ let d : m ≡ n = omega arith in rw d (node_good n 0 0 0 h (next_of_lem t (n + 1) 0 i) refl refl o (omega arith, (refl, tt)))
      | yes y ↦ each_good t (n + 1) 0 _ _ i x m (omega arith) (omega arith)
    ]
    each_good (binary k f t u) n next Γ l (h, i, i') ((o, _, _, _), x, x') m a b =
        let p = n + 1 + size t in
        elim (dec_lt n m) [
          | no y ↦ let d : m ≡ n = omega arith in rw d (node_good n p 0 0 h (next_of_lem t (n + 1) p i) (next_of_lem u p 0 i') refl o (omega arith, (omega arith, (refl, tt))))
          | yes y ↦ elim (dec_lt m p) [
            | yes q ↦ each_good t (n + 1) p _ _ i x m (omega arith) (omega arith)
            | no q ↦ each_good u p 0 _ _ i' x' m (omega arith) (omega arith)
          ]
        ]
    each_good (ternary k f t s e) n next Γ l (h, i, i', i'') ((o, _, _, _), x, x', x'') m a b =
        let p = n + 1 + size t in
        let r = p + size s in
        elim (dec_lt n m) [
          | no y ↦ let d : m ≡ n = omega arith in rw d (node_good n p r 0 h (next_of_lem t (n + 1) p i) (next_of_lem s p r i') (next_of_lem e r 0 i'') o (omega arith, (omega arith, (omega arith, (refl, tt)))))
          | yes y ↦ elim (dec_lt m p) [
            | yes q ↦ each_good t (n + 1) p _ _ i x m (omega arith) (omega arith)
            | no q ↦ elim (dec_lt m r) [
              | yes q' ↦ each_good s p r _ _ i' x' m (omega arith) (omega arith)
              | no q' ↦ each_good e r 0 _ _ i'' x'' m (omega arith) (omega arith)
            ]
          ]
        ]

  -- g of the links' targets: every record of t but the first is named once, and so is next.
  module _ (g : ℕ → ℕ) (g-none : g 0 ≡ 0) where
    abbrev pub links : ℕ → ℕ
    links n = g (first_of rs n) + g (next_of rs n)

    links_at : {n : ℕ} {k : Kind} {f : Fields} {first next : ℕ} → Node n k f first next → links n ≡ g first + g next
    links_at h = ap₂ (λ x y. g x + g y) h.to_first h.to_next

    pub link_sum : (t : Term) (n next : ℕ) → Laid n next t → total links n (size t) + g n ≡ g next + total g n (size t)
    unfolding size total
    link_sum (leaf k f) n next h = omega (arith, links_at h, g-none)
    link_sum (unary k f t) n next (h, i) = omega (arith, split₁ links n (size t), split₁ g n (size t), links_at h, g-none, link_sum t (n + 1) 0 i)
    link_sum (binary k f t u) n next (h, i, j) =
        omega (arith, split₂ links n (size t) (size u), split₂ g n (size t) (size u), links_at h, g-none, link_sum t (n + 1) (n + 1 + size t) i, link_sum u (n + 1 + size t) 0 j)
    link_sum (ternary k f t s e) n next (h, i, j, o) =
        omega (
          arith,
          split₃ links n (size t) (size s) (size e),
          split₃ g n (size t) (size s) (size e),
          links_at h,
          g-none,
          link_sum t (n + 1) (n + 1 + size t) i,
          link_sum s (n + 1 + size t) (n + 1 + size t + size s) j,
          link_sum e (n + 1 + size t + size s) 0 o,
        )

  but_one : (m : ℕ) → pick (eqb m 1) 0 1 + is 1 m ≡ 1
  but_one m = elim (ℕ_discrete m 1) [
    | yes e ↦ rw e
    | no e ↦ rw (is_false (eqb m 1) (λ t. e (eqb→eq m 1 t)), is_other 1 m (λ d. e (sym d)))
  ]

  pub named_once : (t : Term) → Laid 1 0 t → size t ≡ length rs → (m : ℕ) → 1 ≤ m → m < 1 + length rs → naming rs m ≡ pick (eqb m 1) 0 1
  named_once t h z m a b =
      let g : ℕ → ℕ = λ x. is x m in
      let none : is 0 m ≡ 0 = is_other 0 m (λ e. omega arith) in
      let sum = rw z at (link_sum g none t 1 0 h) in
      let one : total g 1 (length rs) ≡ 1 = total_ext g (λ x. is m x * 1) 1 (length rs) (λ x _ _. omega (arith, is_flip x m)) ∙ total_at (λ _. 1) m 1 (length rs) a b in
      omega (arith, sum, none, one, but_one m)
