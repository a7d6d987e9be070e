-- Copies by one skeleton, whatever the change: a block, a variable that gives way, or a root with its children one after another and its measures
-- last.
use Prim.Native.Nat.{ℕ, ◌+◌, ◌-◌, ◌/◌, ◌^◌, ◌≤◌, ◌<◌}
use native.Mathlib.Omega.{arith}
use native.Mathlib.Numerals.{add-one}
use mathlib.Core.List.{List, ◌∷◌, ◌++◌}
use mathlib.Core.Bool.{Bool, true, false}
use mathlib.Core.Logic.{inl, inr, ⊎_elim}
use mathlib.Core.Path.{◌≡◌, refl, sym, ap, ◌∙◌}
use lib.ListN.{length, get_or, set, length-set}
use lib.Seq.{get_or-set_same}
use mir.Syntax.{w64}
use mir.Val.{Fits}
use Rattle.rules.specs.Kinds.{number, variable, Kind, child_count, kind_number, kind_of}
use Rattle.rules.specs.Terms.{Fields, Term, leaf, unary, binary, ternary, root_kind, fields_of, size}
use Rattle.rules.specs.FreeBounds.{free_bound}
use Rattle.rules.specs.Indices.{Change, with_index, changed, names_removed}
use Rattle.rules.specs.Format.{Record, no_record}
use Rattle.rules.proofs.KindTable.{kind_back}
use Rattle.rules.proofs.Laid.{size_some}
use Rattle.rules.proofs.FreeBounds.{KeepsLow, changed_low}
use Rattle.records.specs.View.{records_in}
use Rattle.records.proofs.Records.{records_length}
use Rattle.terms.specs.Preorder.{puts, part, head, preorder, There, At, HasTree, Skips}
use Rattle.terms.specs.Moves.{CanMove}
use Rattle.terms.specs.Children.{kids, sizes, preorders}
use Rattle.terms.proofs.Puts.{length_puts, puts_append, puts_other, rewritten}
use Rattle.terms.proofs.Children.{kids_sizes}
use Rattle.terms.specs.Measuring.{binders_over, RootedAt, HasRooted, MarksRoot}
use Rattle.terms.proofs.There.{there_put, there_stays, there_set_stays}
use Rattle.terms.proofs.Trees.{length_preorder, length_preorders, preorder_kids, at_first, at_head, at_within, kids_there}
use Rattle.terms.proofs.Readings.{bound_reads}
use Rattle.terms.proofs.Joined.{binds_few}
use Rattle.copies.specs.Roots.{moved_field}
use Rattle.copies.specs.Copying.{Outside}
use Rattle.copies.specs.Copying.{Way, Fitting, CopyAt, CanCopy, Written, Copies, BlockMoved, is_named, moved_record, MovesRoot}
use Rattle.copies.proofs.Roots.{changed_children, Kept, root_kept}
use Rattle.copies.proofs.Rows.{child, after, child_split, none_after, child_low, Row, row_starts, Turn, row_turn}

-- What stands outside of the free records stays.
pub record Stays (lo hi : ℕ) (rs rs' : List Record) : Type 0 where
  pub same : length rs' ≡ length rs
  pub keeps : (i : ℕ) (xs : List Record) → Outside lo hi i (length xs) → There rs i xs → There rs' i xs

module _ (lo hi : ℕ) (rs : List Record) where
  pub stays_puts : (i : ℕ) (vs : List Record) → lo ≤ i → i + length vs ≤ hi → Stays lo hi rs (puts rs i vs)
  stays_puts i vs l b = record {
    same = length_puts rs i vs;
    keeps = λ j xs o h. there_stays rs i vs j xs (⊎_elim (λ x. inl (omega arith)) (λ x. inr (omega arith)) o) h;
  }

  pub stays_set : (i : ℕ) (v : Record) → lo ≤ i → i < hi → Stays lo hi rs (set rs i v)
  stays_set i v l b = record {
    same = length-set rs i v;
    keeps = λ j xs o h. there_set_stays rs i v j xs (⊎_elim (λ x. inl (omega arith)) (λ x. inr (omega arith)) o) h;
  }

  pub stays_then : (rs' rs'' : List Record) → Stays lo hi rs rs' → Stays lo hi rs' rs'' → Stays lo hi rs rs''
  stays_then rs' rs'' p q = record { same = q.same ∙ p.same; keeps = λ i xs o h. q.keeps i xs o (p.keeps i xs o h) }

  pub tree_stays : (rs' : List Record) (i : ℕ) (t : Term) → Stays lo hi rs rs' → Outside lo hi i (size t) → At rs i t → At rs' i t
  tree_stays rs' i t s o h = record { there = s.keeps i (preorder t) (rw (length_preorder t) o) h.there }

-- What is asked of a way: it leaves indices below d binders alone, moves each index that names none of the m binders next to them by `moved d`,
-- reaches as far as it says, and turns on nothing that a copy writes over.
pub record Sound (M : Way) (m : ℕ) (moved : ℕ → ℕ → ℕ) : Type 0 where
  pub low : (rs : List Record) (lo hi b : ℕ) (c : Change) → M rs lo hi c b → KeepsLow c
  pub index : (rs : List Record) (lo hi b : ℕ) (c : Change) → M rs lo hi c b → (d : ℕ) → c.on_index d ≡ moved d
  pub steady : (rs : List Record) (lo hi b : ℕ) (c : Change) → M rs lo hi c b → (d : ℕ) (f : Fields) → names_removed m d f.a ≡ false
      → c.on_variable d f ≡ leaf variable (with_index f (c.on_index d f.a))
  pub reach : (rs : List Record) (lo hi b : ℕ) (c : Change) → M rs lo hi c b → (d : ℕ) (t : Term) → free_bound (changed c d t) ≤ free_bound t + d + b
  pub stays : (rs rs' : List Record) (lo hi b : ℕ) (c : Change) → Stays lo hi rs rs' → M rs lo hi c b → M rs' lo hi c b

-- A root with a bound above d is named, or no variable of a named binder.
pub data Spot (m d : ℕ) (t : Term) : Bool → Type 0 where
  named : (f : Fields) → t ≡ leaf variable f → names_removed m d f.a ≡ true → Spot m d t true
  kept : ((f : Fields) → t ≡ leaf variable f → names_removed m d f.a ≡ false) → Spot m d t false

spot : (m d : ℕ) (t : Term) → d < free_bound t → Spot m d t (is_named (child_count (root_kind t)) m d (fields_of t).a)
unfolding is_named free_bound
spot m d (leaf number f) h = absurd (omega arith)
spot m d (leaf variable f) h = go (names_removed m d f.a) refl
  where
    go : (x : Bool) → names_removed m d f.a ≡ x → Spot m d (leaf variable f) x
    go true e = named f refl e
    go false e = kept (λ g q. ap (λ u. names_removed m d (fields_of u).a) (sym q) ∙ e)
spot m d (unary k f t) h = kept (λ g q. absurd (omega (arith, ap (λ u. child_count (root_kind u)) q)))
spot m d (binary k f t u) h = kept (λ g q. absurd (omega (arith, ap (λ u. child_count (root_kind u)) q)))
spot m d (ternary k f t s e) h = kept (λ g q. absurd (omega (arith, ap (λ u. child_count (root_kind u)) q)))

-- What is read of the root at src.
module _ (rs : List Record) (src : ℕ) (r : Record) (e : r ≡ get_or rs src no_record) (t : Term) (h : At rs src t) where
  pub read_root : r ≡ head t
  read_root = e ∙ at_head rs src t h

  pub read_bound : r.next / 2 ≡ free_bound t
  read_bound = (bound_reads rs src r e).is t h

  pub read_kind : kind_of r.kind ≡ root_kind t
  read_kind = ap (λ q. kind_of q.kind) read_root ∙ kind_back (root_kind t)

  pub read_spot : (m d : ℕ) → d < r.next / 2 → (k : ℕ) → k ≡ child_count (kind_of r.kind) → Spot m d t (is_named k m d r.fields.a)
  read_spot m d l k n =
      let i : r.fields.a ≡ (fields_of t).a = ap (λ q. q.fields.a) read_root in
      rw (n, read_kind, i) (spot m d t (omega (arith, read_bound)))

module _ (M : Way) (rs : List Record) (src dst d : ℕ) where
  pub copy_in : CanCopy M rs src dst d → src < length rs
  copy_in h = at_first rs src h.tree h.copy.there

  pub copy_to : CanCopy M rs src dst d → dst < length rs
  copy_to h = omega (arith, h.copy.fits.room, h.copy.fits.within, size_some (changed h.change d h.tree))

-- A tree without an index that moves, as a block.
module _ (M : Way) (m : ℕ) (moved : ℕ → ℕ → ℕ) (S : Sound M m moved) (rs : List Record) (src dst d : ℕ) (r : Record) (e : r ≡ get_or rs src no_record) (l : r.next / 2 ≤ d) where
  same_tree : (lo hi b : ℕ) (c : Change) (t : Term) → M rs lo hi c b → At rs src t → changed c d t ≡ t
  same_tree lo hi b c t s h = changed_low c (S.low rs lo hi b c s) d t (omega (arith, read_bound rs src r e t h))

  read_size : (t : Term) → At rs src t → r.first ≡ size t
  read_size t h = ap (λ q. q.first) (read_root rs src r e t h)

  pub block_can : CanCopy M rs src dst d → CanMove rs src dst r.first
  block_can h =
      let t = h.tree in
      let f = h.copy.fits in
      let q = ap size (same_tree h.lo h.hi h.reach h.change t h.meant h.copy.there) in
      let s = read_size t h.copy.there in
      record {
        from = omega (arith, at_within rs src t h.copy.there);
        to = omega (arith, f.room, f.within);
        apart = ⊎_elim (λ x. inl (omega (arith, f.start))) (λ x. inr (omega (arith, f.room))) f.outside;
      }

  pub block_does : (rs' : List Record) (o : ℕ) → BlockMoved rs rs' src dst r.first o → Copies M rs rs' src dst d o
  block_does rs' o w = record {
    does = λ lo hi b c t s h.
        let q : r.first ≡ length (preorder t) = read_size t h.there ∙ sym (length_preorder t) in
        rw (same_tree lo hi b c t s h.there) (record { records = w.moved.is ∙ ap (puts rs dst) (ap (part rs src) q ∙ h.there.there.is); end = w.end ∙ ap (λ n. dst + n) (read_size t h.there) });
  }

-- The root is written, the children are left.
pub record Rooted (m : ℕ) (c : Change) (b : ℕ) (rs : List Record) (lo hi src dst d : ℕ) (k : Kind) (t : Term) : Type 0 where
  pub kind : k ≡ root_kind t
  pub unnamed : (f : Fields) → t ≡ leaf variable f → names_removed m d f.a ≡ false
  pub kept : Kept c d t
  pub root_kind_lem : (get_or rs dst no_record).kind ≡ kind_number (root_kind (changed c d t))
  pub root_fields : (get_or rs dst no_record).fields ≡ fields_of (changed c d t)
  pub children : There rs (src + 1) (preorders (kids t))
  pub fits : Fitting c b (length rs) lo hi src dst d t

pub record RootOf (M : Way) (m : ℕ) (rs : List Record) (src dst d : ℕ) (k : Kind) (t : Term) : Type 0 where
  pub lo : ℕ
  pub hi : ℕ
  pub reach : ℕ
  pub change : Change
  pub meant : M rs lo hi change reach
  pub rooted : Rooted m change reach rs lo hi src dst d k t

copy_size : (c : Change) (d : ℕ) (t : Term) → Kept c d t → size (changed c d t) ≡ 1 + sizes (changed_children c d (root_kind t) 0 (kids t))
copy_size c d t k = kids_sizes (changed c d t) ∙ ap (λ us. 1 + sizes us) k.children

copy_records : (c : Change) (d : ℕ) (t : Term) → Kept c d t → preorder (changed c d t) ≡ head (changed c d t) ∷ preorders (changed_children c d (root_kind t) 0 (kids t))
copy_records c d t k = preorder_kids (changed c d t) ∙ ap (λ us. head (changed c d t) ∷ preorders us) k.children

-- Before child j is copied from `at` to `to`: once the copies of those that are left are written, all are.
record Left (c : Change) (lo hi : ℕ) (rs₁ rs : List Record) (src dst d at to j : ℕ) (t : Term) : Type 0 where
  row : Row rs₁ src at j t
  place : to + sizes (changed_children c d (root_kind t) j (after t j)) ≡ dst + size (changed c d t)
  begun : dst < to
  stays : Stays lo hi rs₁ rs
  written : puts rs to (preorders (changed_children c d (root_kind t) j (after t j))) ≡ puts rs₁ (dst + 1) (preorders (changed_children c d (root_kind t) 0 (kids t)))

pub record Copying (M : Way) (m : ℕ) (rs₁ : List Record) (src dst d : ℕ) (k : Kind) (rs : List Record) (at to j : ℕ) : Type 0 where
  all : (t : Term) (o : RootOf M m rs₁ src dst d k t) → Left o.change o.lo o.hi rs₁ rs src dst d at to j t
  pub tree : Term
  pub of : RootOf M m rs₁ src dst d k tree

-- The root, and the end.
module _ (M : Way) (m : ℕ) (moved : ℕ → ℕ → ℕ) (S : Sound M m moved) (rs : List Record) (src dst d : ℕ) (r : Record) (e : r ≡ get_or rs src no_record) (l : d < r.next / 2)
    (n : ℕ) (o : n ≡ child_count (kind_of r.kind)) (x : Bool) (i : x ≡ is_named n m d r.fields.a) (y : x ≡ false) (rs₁ : List Record) (w : MovesRoot (moved d) rs rs₁ dst r) where
  pub stays_root : (lo hi b : ℕ) (c : Change) (t : Term) → CopyAt c b rs lo hi src dst d t → Stays lo hi rs rs₁
  stays_root lo hi b c t h = rw w.is (stays_set lo hi rs dst _ h.fits.start (omega (arith, h.fits.room, size_some (changed c d t))))

  pub rooted_of : (lo hi b : ℕ) (c : Change) (t : Term) → M rs lo hi c b → CopyAt c b rs lo hi src dst d t → Rooted m c b rs₁ lo hi src dst d (kind_of r.kind) t
  rooted_of lo hi b c t s h =
      let f = h.fits in
      let z = size_some (changed c d t) in
      let g = stays_root lo hi b c t h in
      let v : get_or rs₁ dst no_record ≡ moved_record (moved d) (head t) =
      ap (λ u. get_or u dst no_record) w.is ∙ get_or-set_same rs dst _ no_record (omega (arith, f.room, f.within)) ∙ ap (moved_record (moved d)) (read_root rs src r e t h.there) in
      let k = told (rw (← i, y) at (read_spot rs src r e t h.there m d l n o)) in
      let p : Kept c d t = root_kept c d t (λ u a. S.steady rs lo hi b c s d u (k u a)) in
      let a : moved_field (moved d) (kind_of (kind_number (root_kind t))) (fields_of t).a ≡ moved_field (c.on_index d) (root_kind t) (fields_of t).a =
      ap (λ k. moved_field (moved d) k (fields_of t).a) (kind_back (root_kind t)) ∙ ap (λ k. moved_field k (root_kind t) (fields_of t).a) (sym (S.index rs lo hi b c s d)) in
      record {
        kind = read_kind rs src r e t h.there;
        unnamed = k;
        kept = p;
        root_kind_lem = ap (λ u. u.kind) v ∙ ap kind_number (sym p.kind);
        root_fields = ap (λ u. u.fields) v ∙ ap (with_index (fields_of t)) a ∙ sym p.fields;
        children = g.keeps (src + 1) _ (⊎_elim (λ u. inl (omega (arith, length_preorders (kids t), kids_sizes t))) (λ u. inr (omega arith)) f.outside) (kids_there rs src t h.there);
        fits = record { outside = f.outside; start = f.start; room = f.room; within = omega (arith, f.within, g.same); few = f.few; low = f.low };
      }
    where
      told : Spot m d t false → (f : Fields) → t ≡ leaf variable f → names_removed m d f.a ≡ false
      told (kept a) = a

  abbrev pub root_of : (lo hi b : ℕ) (c : Change) (t : Term) → M rs lo hi c b → CopyAt c b rs lo hi src dst d t → RootOf M m rs₁ src dst d (kind_of r.kind) t
  root_of lo hi b c t s h = record { lo = lo; hi = hi; reach = b; change = c; meant = S.stays rs rs₁ lo hi b c (stays_root lo hi b c t h) s; rooted = rooted_of lo hi b c t s h }

  pub copy_starts : CanCopy M rs src dst d → Copying M m rs₁ src dst d (kind_of r.kind) rs₁ (src + 1) (dst + 1) 0
  unfolding after
  copy_starts h = record {
    all = λ t g. record {
      row = row_starts rs₁ src t g.rooted.children;
      place = omega (arith, copy_size g.change d t g.rooted.kept);
      begun = omega arith;
      stays = record { same = refl; keeps = λ i xs o h. h };
      written = refl;
    };
    tree = h.tree;
    of = root_of h.lo h.hi h.reach h.change h.tree h.meant h.copy;
  }

-- A turn of the loop.
module _ (M : Way) (m : ℕ) (moved : ℕ → ℕ → ℕ) (S : Sound M m moved) (rs₁ : List Record) (src dst d : ℕ) (k : Kind) (rs : List Record) (at to j n : ℕ) (p : Copying M m rs₁ src dst d k rs at to j)
    (o : n ≡ child_count k) (l : j < n) where
  module _ (t : Term) (g : RootOf M m rs₁ src dst d k t) where
    pub next_one : j < child_count (root_kind t)
    next_one = omega (arith, o, ap child_count g.rooted.kind)

    pub next_turn : Turn rs₁ src at j t
    next_turn = row_turn rs₁ src at j t (p.all t g).row next_one

    next_place : to + (size (changed g.change (d + binders_over (root_kind t) j) (child t j)) + sizes (changed_children g.change d (root_kind t) (j + 1) (after t (j + 1)))) ≡ dst + size (changed g.change d t)
    unfolding sizes changed_children
    next_place = rw (add-one j) (rw (child_split t j next_one, add-one j) at (p.all t g).place)

    pub next_meant : M rs g.lo g.hi g.change g.reach
    next_meant = S.stays rs₁ rs g.lo g.hi g.reach g.change (p.all t g).stays g.meant

    pub next_copy : CopyAt g.change g.reach rs g.lo g.hi at to (d + binders_over (root_kind t) j) (child t j)
    next_copy =
        let q = p.all t g in
        let f = g.rooted.fits in
        let v = next_turn.next.from in
        let out : Outside g.lo g.hi at (size (child t j)) = ⊎_elim (λ u. inl (omega arith)) (λ u. inr (omega (arith, q.row.begun))) f.outside in
        record {
          there = tree_stays g.lo g.hi rs₁ rs at (child t j) q.stays out next_turn.there;
          fits = record {
            outside = out;
            start = omega (arith, f.start, q.begun);
            room = omega (arith, f.room, next_place);
            within = omega (arith, f.within, q.stays.same);
            few = f.few;
            low = omega (arith, f.low, child_low t j next_one, binds_few (root_kind t) j, q.row.begun);
          };
        }

  pub turn_tree : HasTree rs at
  turn_tree = record { tree = child p.tree j; there = (next_copy p.tree p.of).there }

  module _ (u : ℕ) (b : u ≡ binders_over k j) where
    pub over : (t : Term) → RootOf M m rs₁ src dst d k t → u ≡ binders_over (root_kind t) j
    over t g = b ∙ ap (λ x. binders_over x j) g.rooted.kind

    pub turn_can : CanCopy M rs at to (d + u)
    turn_can =
        let t = p.tree in
        let g = p.of in
        record { lo = g.lo; hi = g.hi; reach = g.reach; change = g.change; tree = child t j; meant = next_meant t g; copy = rw (over t g) (next_copy t g) }

    pub turn_next : (end : ℕ) → Skips rs at end → (rs' : List Record) (to' : ℕ) → Copies M rs rs' at to (d + u) to' → Copying M m rs₁ src dst d k rs' end to' (j + 1)
    unfolding changed_children preorders
    turn_next end sk rs' to' w = record { all = next; tree = p.tree; of = p.of }
      where
        next : (t : Term) (g : RootOf M m rs₁ src dst d k t) → Left g.change g.lo g.hi rs₁ rs' src dst d end to' (j + 1) t
        next t g =
            let q = p.all t g in
            let c = g.change in
            let f = (next_copy t g).fits in
            let v = changed c (d + binders_over (root_kind t) j) (child t j) in
            let xs = preorder v in
            let z = length_preorder v in
            let does : Written rs rs' to v to' = rw (over t g) at (w.does g.lo g.hi g.reach c (child t j) (next_meant t g) (rw (over t g) (next_copy t g))) in
            let y = sk.is (child t j) (next_copy t g).there in
            let a : to' ≡ to + length xs = omega (arith, does.end) in
            let rest = changed_children c d (root_kind t) (j + 1) (after t (j + 1)) in
            let old : puts rs to (xs ++ preorders rest) ≡ puts rs₁ (dst + 1) (preorders (changed_children c d (root_kind t) 0 (kids t))) =
            rw (add-one j) (rw (child_split t j (next_one t g), add-one j) at q.written) in
            record {
              row = rw y (next_turn t g).next;
              place = omega (arith, next_place t g, does.end);
              begun = omega (arith, q.begun, does.end);
              stays = stays_then g.lo g.hi rs₁ rs rs' q.stays (rw does.records (stays_puts g.lo g.hi rs to xs f.start (omega (arith, f.room))));
              written = ap (λ s. puts s to' (preorders rest)) does.records ∙ ap (λ s. puts (puts rs to xs) s (preorders rest)) a ∙ sym (puts_append rs to xs (preorders rest)) ∙ old;
            }

-- All children are copied.
module _ (M : Way) (m : ℕ) (moved : ℕ → ℕ → ℕ) (S : Sound M m moved) (rs₁ : List Record) (src dst d : ℕ) (k : Kind) (rs : List Record) (at to j n : ℕ) (p : Copying M m rs₁ src dst d k rs at to j)
    (o : n ≡ child_count k) (l : n ≤ j) where
  module _ (t : Term) (g : RootOf M m rs₁ src dst d k t) where
    abbrev copies : List Term
    copies = changed_children g.change d (root_kind t) 0 (kids t)

    all_written : rs ≡ puts rs₁ (dst + 1) (preorders copies)
    unfolding puts preorders changed_children
    all_written = rw (none_after t j (omega (arith, o, ap child_count g.rooted.kind))) at (p.all t g).written

    root_there : RootedAt rs dst (changed g.change d t)
    root_there =
        let h = g.rooted in
        let f = h.fits in
        let v = all_written in
        let z = copy_size g.change d t h.kept in
        let y = length_preorders copies in
        let x : get_or rs dst no_record ≡ get_or rs₁ dst no_record = ap (λ q. get_or q dst no_record) v ∙ puts_other rs₁ (dst + 1) (preorders copies) dst (inl (omega arith)) in
        record {
          within = omega (arith, f.room, f.within, ap length v ∙ length_puts rs₁ (dst + 1) (preorders copies));
          kind = ap (λ q. q.kind) x ∙ h.root_kind_lem;
          fields = ap (λ q. q.fields) x ∙ h.root_fields;
          children = rw (h.kept.children, v) (there_put rs₁ (dst + 1) (preorders copies) (omega (arith, f.room, f.within)));
          few = omega (arith, f.room, f.few);
          low = omega (arith, S.reach rs₁ g.lo g.hi g.reach g.change g.meant d t, f.low);
        }

  pub copy_rooted : HasRooted rs dst
  copy_rooted = record { tree = changed p.of.change d p.tree; there = root_there p.tree p.of }

-- The copy is whole once its root has its measures.
module _ (M : Way) (m : ℕ) (moved : ℕ → ℕ → ℕ) (S : Sound M m moved) (rs : List Record) (src dst d : ℕ) (r : Record) (e : r ≡ get_or rs src no_record) (l : d < r.next / 2)
    (n : ℕ) (o : n ≡ child_count (kind_of r.kind)) (x : Bool) (i : x ≡ is_named n m d r.fields.a) (y : x ≡ false) (rs₁ : List Record) (w : MovesRoot (moved d) rs rs₁ dst r) where
  pub copy_ends : (rs₂ : List Record) (at to j : ℕ) → Copying M m rs₁ src dst d (kind_of r.kind) rs₂ at to j → n ≤ j → (rs₃ : List Record) (end : ℕ) → MarksRoot rs₂ rs₃ dst end → Copies M rs rs₃ src dst d end
  copy_ends rs₂ at to j p q rs₃ end k = record {
    does = λ lo hi b c t s h.
        let g = root_of M m moved S rs src dst d r e l n o x i y rs₁ w lo hi b c t s h in
        let vs = preorders (changed_children c d (root_kind t) 0 (kids t)) in
        let v = all_written M m moved S rs₁ src dst d (kind_of r.kind) rs₂ at to j n p o q t g in
        let (f, z) = k.does (changed c d t) (root_there M m moved S rs₁ src dst d (kind_of r.kind) rs₂ at to j n p o q t g) in
        record {
          records = f ∙ ap (λ u. set u dst (head (changed c d t))) (v ∙ ap (λ u. puts u (dst + 1) vs) w.is) ∙ rewritten rs dst (moved_record (moved d) r) (head (changed c d t)) vs
              ∙ ap (puts rs dst) (sym (copy_records c d t g.rooted.kept));
          end = z;
        };
  }

-- Places and lengths.
pub copy_from_fits : (M : Way) (s : List ℕ) (src dst d : ℕ) → CanCopy M (records_in s) src dst d → length s < 2 ^ 64 → Fits w64 (src + 1)
copy_from_fits M s src dst d h b = omega (arith, copy_in M (records_in s) src dst d h, records_length s)

pub copy_falls : (M : Way) (m : ℕ) (moved : ℕ → ℕ → ℕ) → Sound M m moved → (s₁ : List ℕ) (src dst d : ℕ) (k : Kind) (s : List ℕ) (at to j n : ℕ) → Copying M m (records_in s₁) src dst d k (records_in s) at to j
    → n ≡ child_count k → j < n → (s₀ : List ℕ) → length s₁ ≡ length s₀ → (q : ℕ) → length (records_in s₀) - src ≡ q → length (records_in s) - at < q
copy_falls M m moved S s₁ src dst d k s at to j n p o l s₀ y q g =
    let h = p.all p.tree p.of in
    omega (arith, h.row.begun, h.stays.same, records_length s₁, records_length s₀, at_first (records_in s) at _ (turn_tree M m moved S (records_in s₁) src dst d k (records_in s) at to j n p o l).there)
