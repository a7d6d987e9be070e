-- Trees that stand one after another and are to be copied with their indices raised: a tree is copied at once, or its root alone is, and its
-- children come before the trees after it.
use Prim.Native.Nat.{ℕ, suc, ◌+◌, ◌*◌, ◌≤◌}
use native.Mathlib.Omega.{arith}
use mathlib.Core.List.{List, [], ◌∷◌, ◌++◌, append_assoc}
use mathlib.Core.Logic.{inl, inr, ⊎_elim}
use mathlib.Core.Path.{◌≡◌, refl, sym, ap, ◌∙◌, subst}
use lib.ListN.{length, set, length-set, length-append}
use Rattle.rules.specs.Lists.{All}
use Rattle.rules.specs.Kinds.{Kind}
use Rattle.rules.specs.Terms.{Term, root_kind, size}
use Rattle.rules.specs.FreeBounds.{free_bound}
use Rattle.rules.specs.Indices.{changed, raising}
use Rattle.rules.specs.Format.{Record}
use Rattle.rules.proofs.General.{all_append}
use Rattle.terms.specs.Preorder.{puts, head, preorder, There}
use Rattle.terms.specs.Children.{kids, sizes, preorders}
use Rattle.terms.specs.Measuring.{Low, binders_over}
use Rattle.terms.proofs.Puts.{length_puts, puts_append}
use Rattle.terms.proofs.There.{there_rest, there_stays, there_set_stays}
use Rattle.terms.proofs.Children.{kids_sizes, sizes_append}
use Rattle.terms.proofs.Trees.{length_preorder, length_preorders, preorder_kids, preorders_append, first_tree, later_trees}
use Rattle.terms.proofs.Low.{low_kids}
use Rattle.copies.specs.Raising.{RaisingAt}
use Rattle.copies.proofs.Roots.{changed_children}
use Rattle.copies.proofs.RaisedRoots.{raise_kept, size_raised}

-- The binders over the first tree of a row, and those over the trees after it: as es says, and d where it says nothing.
abbrev first_depth : List ℕ → ℕ → ℕ
first_depth [] d = d
first_depth (e ∷ es) d = e

abbrev later_depths : List ℕ → List ℕ
later_depths [] = []
later_depths (e ∷ es) = es

-- The records of the trees of a row, raised.
unfoldable pub raised_trees : ℕ → List ℕ → ℕ → List Term → List Record
raised_trees n es d [] = []
raised_trees n es d (v ∷ vs) = preorder (changed (raising n) (first_depth es d) v) ++ raised_trees n (later_depths es) d vs

-- The trees vs, of which t is made, are left once i of its records are copied.
pub record Uncopied (rs₀ : List Record) (src dst n d : ℕ) (rs : List Record) (i : ℕ) (es : List ℕ) (t : Term) (vs : List Term) : Type 0 where
  pub enough : length es ≤ length vs
  pub there : There rs (src + i) (preorders vs)
  pub from : i + sizes vs ≡ size t
  pub same : length rs ≡ length rs₀
  pub low : All (Low (free_bound t + 2 * size t)) vs
  pub written : puts rs (dst + i) (raised_trees n es d vs) ≡ puts rs₀ dst (preorder (changed (raising n) d t))

pub record Remaining (rs₀ : List Record) (src dst n d : ℕ) (rs : List Record) (i : ℕ) (es : List ℕ) (t : Term) : Type 0 where
  pub trees : List Term
  pub left : Uncopied rs₀ src dst n d rs i es t trees

-- With a tree more to copy.
pub record NextTree (rs₀ : List Record) (src dst n d : ℕ) (rs : List Record) (i : ℕ) (es : List ℕ) (t : Term) : Type 0 where
  pub first : Term
  pub later : List Term
  pub left : Uncopied rs₀ src dst n d rs i es t (first ∷ later)

-- The loop, where es is empty; and the way through the children of a root that binds.
pub record Pending (rs₀ : List Record) (src dst n d : ℕ) (rs : List Record) (i : ℕ) (es : List ℕ) : Type 0 where
  pub all : (t : Term) → RaisingAt rs₀ src dst n d t → Remaining rs₀ src dst n d rs i es t
  pub tree : Term
  pub raises : RaisingAt rs₀ src dst n d tree

-- The first tree of a row.
module _ (rs₀ : List Record) (src dst n d : ℕ) (t : Term) (h : RaisingAt rs₀ src dst n d t) (rs : List Record) (i : ℕ) where
  module _ (es : List ℕ) (v : Term) (vs : List Term) (r : Uncopied rs₀ src dst n d rs i es t (v ∷ vs)) where
    pub first_left : i + (size v + sizes vs) ≡ size t
    unfolding sizes
    first_left = r.from

    pub first_raises : first_depth es d + 2 * size v ≤ d + 2 * size t → RaisingAt rs (src + i) (dst + i) n (first_depth es d) v
    first_raises l = record {
      there = first_tree rs (src + i) v vs r.there;
      room = omega (arith, first_left, h.room, r.same);
      apart = ⊎_elim (λ x. inl (omega (arith, first_left))) (λ x. inr (omega (arith, first_left))) h.apart;
      small = omega (arith, h.small, r.low.0);
      deep = omega (arith, h.deep);
    }

    -- It is copied.
    pub first_copied : (rs' : List Record) → rs' ≡ puts rs (dst + i) (preorder (changed (raising n) (first_depth es d) v)) → (j : ℕ) → j ≡ i + size v → Uncopied rs₀ src dst n d rs' j (later_depths es) t vs
    unfolding raised_trees
    first_copied rs' e j q =
        let xs = preorder (changed (raising n) (first_depth es d) v) in
        let m : length xs ≡ size v = length_preorder (changed (raising n) (first_depth es d) v) ∙ size_raised n (first_depth es d) v in
        let p : src + i + size v ≡ src + j = omega arith in
        let o : dst + j ≡ dst + i + length xs = omega arith in
        record {
          enough = fewer es r.enough;
          there = subst (λ k. There rs' k (preorders vs)) p (rw e (there_stays rs (dst + i) xs (src + i + size v) (preorders vs)
              (⊎_elim (λ x. inl (omega (arith, first_left, length_preorders vs))) (λ x. inr (omega (arith, first_left))) h.apart) (later_trees rs (src + i) v vs r.there)));
          from = omega (arith, first_left);
          same = ap length e ∙ length_puts rs (dst + i) xs ∙ r.same;
          low = r.low.1;
          written = ap (λ s. puts s (dst + j) (raised_trees n (later_depths es) d vs)) e ∙ ap (λ k. puts (puts rs (dst + i) xs) k (raised_trees n (later_depths es) d vs)) o
              ∙ sym (puts_append rs (dst + i) xs (raised_trees n (later_depths es) d vs)) ∙ r.written;
        }
      where
        fewer : (es : List ℕ) → length es ≤ length (v ∷ vs) → length (later_depths es) ≤ length vs
        fewer [] l = omega arith
        fewer (e ∷ es) l = omega arith

  -- Its root is, where no more is said of the trees: fs says what stands over the children.
  module _ (v : Term) (vs : List Term) (r : Uncopied rs₀ src dst n d rs i [] t (v ∷ vs)) where
    pub first_opened : (fs : List ℕ) → length fs ≤ length (kids v) → raised_trees n fs d (kids v ++ vs) ≡ preorders (changed_children (raising n) d (root_kind v) 0 (kids v)) ++ raised_trees n [] d vs
        → (rs' : List Record) → rs' ≡ set rs (dst + i) (head (changed (raising n) d v)) → Uncopied rs₀ src dst n d rs' (i + 1) fs t (kids v ++ vs)
    unfolding raised_trees preorders puts
    first_opened fs l q rs' e =
        let x = head (changed (raising n) d v) in
        let ys = preorders (changed_children (raising n) d (root_kind v) 0 (kids v)) in
        let p : src + i + 1 ≡ src + (i + 1) = omega arith in
        let o : dst + (i + 1) ≡ dst + i + 1 = omega arith in
        let s = sizes_append (kids v) vs in
        let c : There rs (src + i) (head v ∷ (preorders (kids v) ++ preorders vs)) = rw (preorder_kids v) at r.there in
        let k : There rs (src + i + 1) (preorders (kids v ++ vs)) = rw (preorders_append (kids v) vs) (there_rest rs (src + i) (head v ∷ []) _ c) in
        let z : preorder (changed (raising n) d v) ≡ x ∷ ys = preorder_kids (changed (raising n) d v) ∙ ap (λ ts. x ∷ preorders ts) (raise_kept n d v).children in
        record {
          enough = omega (arith, length-append (kids v) vs);
          there = subst (λ k. There rs' k (preorders (kids v ++ vs))) p (rw e (there_set_stays rs (dst + i) x (src + i + 1) (preorders (kids v ++ vs))
              (⊎_elim (λ a. inl (omega (arith, first_left [] v vs r, length_preorders (kids v ++ vs), kids_sizes v))) (λ a. inr (omega arith)) h.apart) k));
          from = omega (arith, first_left [] v vs r, kids_sizes v);
          same = ap length e ∙ length-set rs (dst + i) x ∙ r.same;
          low = all_append (Low (free_bound t + 2 * size t)) (kids v) vs (low_kids (free_bound t + 2 * size t) v r.low.0) r.low.1;
          written = ap (λ s. puts s (dst + (i + 1)) (raised_trees n fs d (kids v ++ vs))) e ∙ ap (λ k. puts (set rs (dst + i) x) k (raised_trees n fs d (kids v ++ vs))) o
              ∙ ap (puts (set rs (dst + i) x) (dst + i + 1)) q ∙ ap (λ l. puts rs (dst + i) (l ++ raised_trees n [] d vs)) (sym z) ∙ r.written;
        }

-- fs says what stands over the children of a root of kind k from child j on.
abbrev pub Overs : ℕ → Kind → ℕ → List ℕ → Type 0
Overs d k j [] = (i : ℕ) → j ≤ i → binders_over k i ≡ 0
Overs d k j (f ∷ fs) = (f ≡ d + binders_over k j) × Overs d k (suc j) fs

pub trees_opened : (n d : ℕ) (k : Kind) (vs ts : List Term) (j : ℕ) (fs : List ℕ) → length fs ≤ length ts → Overs d k j fs
    → raised_trees n fs d (ts ++ vs) ≡ preorders (changed_children (raising n) d k j ts) ++ raised_trees n [] d vs
unfolding raised_trees preorders changed_children
trees_opened n d k vs [] j [] l h = refl
trees_opened n d k vs [] j (f ∷ fs) l h = absurd (omega arith)
trees_opened n d k vs (t ∷ ts) j [] l h =
    let e : d ≡ d + binders_over k j = omega (arith, h j (omega arith)) in
    ap (λ x. preorder (changed (raising n) x t) ++ raised_trees n [] d (ts ++ vs)) e ∙ ap (λ l. preorder (changed (raising n) (d + binders_over k j) t) ++ l) (trees_opened n d k vs ts (suc j) [] (omega arith) (λ i l. h i (omega arith))) ∙ (simp append_assoc)
trees_opened n d k vs (t ∷ ts) j (f ∷ fs) l (e, h) =
    ap (λ x. preorder (changed (raising n) x t) ++ raised_trees n fs d (ts ++ vs)) e ∙ ap (λ l. preorder (changed (raising n) (d + binders_over k j) t) ++ l) (trees_opened n d k vs ts (suc j) fs (omega arith) h) ∙ (simp append_assoc)
