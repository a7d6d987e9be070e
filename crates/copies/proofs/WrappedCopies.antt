-- `copy_wrapped`: raising after wrapping is one walk, and a sound way to copy. `wrapping_laws` for search.
use Prim.Native.Nat.{ℕ, ◌+◌, ◌-◌, ◌*◌, ◌/◌, ◌^◌, ◌≤◌, ◌<◌, max}
use native.Mathlib.Omega.{arith}
use native.Mathlib.Decide.{dec_lt, ℕ_discrete}
use mathlib.Core.List.{List, [], ◌∷◌}
use mathlib.Core.Bool.{Bool, true, false, true≢false}
use mathlib.Core.Logic.{◌≢◌, inl, inr, ⊎_elim}
use mathlib.Core.Path.{◌≡◌, refl, sym, ap, ap₂, ◌∙◌}
use lib.Dec.{eqb}
use lib.ListN.{length, get_or, set}
use borrow.Author.Tests.{lt-ltb, le-ltb, eq-eqb, ne_eqb, eqb-true}
use mir.Syntax.{w64}
use mir.Val.{Fits}
use Rattle.rules.specs.Kinds.{number, variable, match_variable, match_shape, match, Kind, child_count, kind_of}
use Rattle.rules.specs.Terms.{Fields, Term, leaf, unary, binary, ternary, root_kind, size, only_type}
use Rattle.rules.specs.Binders.{binds₁, binds₃}
use Rattle.rules.specs.FreeBounds.{free_bound}
use Rattle.rules.specs.Values.{plain}
use Rattle.rules.specs.Indices.{Change, changed, raising, raised_index, wrapping, names_removed}
use Rattle.rules.specs.Format.{Record, no_record}
use Rattle.rules.proofs.Laid.{size_some}
use Rattle.rules.proofs.FreeBounds.{KeepsLow}
use Rattle.rules.proofs.ChangedBounds.{raised_most, bound_wrapped}
use Rattle.kinds.specs.Named.{IsKind}
use Rattle.records.specs.View.{records_in}
use Rattle.records.proofs.Records.{records_length}
use Rattle.terms.specs.Preorder.{puts, head, preorder, At, HasTree, Skips}
use Rattle.terms.specs.Moves.{CanMove}
use Rattle.terms.specs.Measuring.{binders_over, HasRooted, MarksRoot}
use Rattle.copies.specs.Roots.{moved_field}
use Rattle.copies.specs.Copying.{CopyAt, CanCopy, Copies, BlockMoved, is_named, MovesRoot, PutsIndexed}
use Rattle.copies.specs.Raising.{FieldFits, RaisingAt, CanRaise, Raises}
use Rattle.copies.specs.Wrapping.{spliced_use, wrapping_under, Wrapping, PutsUse, RoomForUse}
use Rattle.copies.proofs.RaisedRoots.{size_raised, index_fits}
use Rattle.copies.proofs.Parts.{named_other, root_known, root_moves}
use Rattle.terms.proofs.Puts.{put_before}
use Rattle.copies.proofs.Copies.{Sound, read_root, read_bound, read_kind, copy_in, copy_to, block_can, block_does, Copying, copy_starts, turn_tree, turn_can, turn_next, copy_rooted, copy_ends, copy_from_fits, copy_falls}

-- Raising after wrapping is one walk.
module _ (n code : ℕ) where
  use_wrapped : (d : ℕ) (f : Fields) (b : Bool) → eqb f.a d ≡ b
      → changed (wrapping_under n code) d (leaf variable f) ≡ changed (raising n) (d + 1) (changed (wrapping code) d (leaf variable f))
  unfolding wrapping_under changed
  use_wrapped d f true e = rw e (rw (lt-ltb f.a (0 + (d + 1)) (omega (arith, eqb-true f.a d e))))
  use_wrapped d f false e = rw e

  -- The binders that a record adds, before and after the one that raising does not pass.
  under_one : (l d : ℕ) (t : Term) → changed (raising n) (l + d + 1) t ≡ changed (raising n) (l + (d + 1)) t
  under_one l d t = let e : l + d + 1 ≡ l + (d + 1) = omega arith in ap (λ k. changed (raising n) k t) e

  pub wraps_raised : (d : ℕ) (t : Term) → changed (wrapping_under n code) d t ≡ changed (raising n) (d + 1) (changed (wrapping code) d t)
  unfolding wrapping_under changed
  wraps_raised d (leaf number f) = refl
  wraps_raised d (leaf variable f) = use_wrapped d f (eqb f.a d) refl
  wraps_raised d (unary k f t) = ap (unary k f) (wraps_raised (length (binds₁ k f) + d) t ∙ under_one (length (binds₁ k f)) d (changed (wrapping code) (length (binds₁ k f) + d) t))
  wraps_raised d (binary k f t u) = ap₂ (binary k f) (wraps_raised d t) (wraps_raised d u)
  wraps_raised d (ternary (match match_variable) f t s e) = rw (wraps_raised d t, wraps_raised (0 + d) s, wraps_raised d e) (rw (under_one 0 d))
  wraps_raised d (ternary (match (match_shape k)) f t s e) =
      rw (wraps_raised d t, wraps_raised (length (binds₃ (match (match_shape k)) f) + d) s, wraps_raised d e) (rw (under_one (length (binds₃ (match (match_shape k)) f)) d))

-- One binder is named by one index.
pub names_one : (d i : ℕ) → names_removed 1 d i ≡ eqb i d
names_one d i = elim (dec_lt i d) [
  | yes l ↦ rw (lt-ltb i d l, ne_eqb i d (λ e. omega arith))
  | no m ↦ rw (le-ltb i d (omega arith)) (elim (ℕ_discrete i d) [
    | yes e ↦ lt-ltb i (d + 1) (omega arith) ∙ sym (eq-eqb i d e)
    | no n ↦ le-ltb i (d + 1) (omega arith) ∙ sym (ne_eqb i d n)
  ])
]

module _ (n code : ℕ) where
  wrapping_low : KeepsLow (wrapping_under n code)
  unfolding wrapping_under
  wrapping_low = record {
    on_variable = λ d f l. rw (ne_eqb f.a d (λ e. omega arith), lt-ltb f.a (d + 1) (omega arith));
    on_index = λ d i l. rw (lt-ltb i (d + 1) (omega arith));
  }

  pub wrapping_sound : Sound (Wrapping n code) 1 (λ d. raised_index n (d + 1))
  unfolding wrapping_under
  wrapping_sound = record {
    low = λ rs lo hi b c h. rw h.change wrapping_low;
    index = λ rs lo hi b c h d. ap (λ q. q.on_index d) h.change;
    steady = λ rs lo hi b c h d f o. rw h.change (rw (sym (names_one d f.a) ∙ o));
    reach = λ rs lo hi b c h d t. rw (h.change, h.reach) (rw (wraps_raised n code d t) (omega (arith, raised_most n (d + 1) (changed (wrapping code) d t), bound_wrapped code d t)));
    stays = λ rs rs' lo hi b c s h. record { change = h.change; reach = h.reach };
  }

-- A wrapped use has two records.
use_size : (code : ℕ) (f : Fields) → size (spliced_use code f) ≡ 2
unfolding size
use_size code f = refl

-- `put_use`
module _ (s : List ℕ) (dst : ℕ) (h : RoomForUse (records_in s) dst) where
  pub use_fits : length s < 2 ^ 64 → Fits w64 (dst + 1)
  use_fits b = omega (arith, h.two, records_length s)

  pub use_end_fits : length s < 2 ^ 64 → Fits w64 (dst + 2)
  use_end_fits b = omega (arith, h.two, records_length s)

module _ (rs rs₁ rs₂ : List Record) (dst code : ℕ) (r : Record) where
  abbrev used : Record → Record
  used q = record { kind = q.kind; fields = record { type = code; a = q.fields.a; b = q.fields.b; value = q.fields.value }; first = q.first; next = q.next }

  abbrev over : Record → Record
  over q = record { kind = 8; fields = only_type q.fields.type; first = 2; next = 2 * (q.next / 2) }

  use_tree : (f : Fields) → preorder (spliced_use code f) ≡ over (head (leaf variable f)) ∷ used (head (leaf variable f)) ∷ []
  unfolding preorder size free_bound plain
  use_tree f =
      let e : 2 * max 0 (max (max (f.a + 1) (max (0 - 0) (max (0 - 0) 0)) - 0) (max (0 - 0) 0)) + 0 ≡ 2 * ((2 * max (f.a + 1) (max (0 - 0) (max (0 - 0) 0)) + 1) / 2) = omega arith in
      ap (λ n. record { kind = 8; fields = only_type f.type; first = 2; next = n } ∷ used (head (leaf variable f)) ∷ []) e

  pub use_put : rs₁ ≡ set rs (dst + 1) (used r) → rs₂ ≡ set rs₁ dst (over r) → PutsUse rs rs₂ dst r code (dst + 2)
  unfolding puts
  use_put p q = record {
    does = λ f e.
        let g : r ≡ head (leaf variable f) = e in
        record {
          records = q ∙ ap (λ x. set x dst (over r)) p ∙ put_before rs dst (over r) (used r ∷ []) ∙ ap (λ x. puts rs dst (over x ∷ used x ∷ [])) g ∙ ap (puts rs dst) (sym (use_tree f));
          end = two_more f;
        };
  }
    where
      two_more : (f : Fields) → dst + 2 ≡ dst + size (spliced_use code f)
      two_more f = rw (use_size code f)

-- `copy_wrapped`: a leaf is a use of the variable by its bound.
module _ (d k b : ℕ) where
  use_named : is_named k 1 (d + 1) b ≡ true → (k ≡ 0) × (b ≡ d + 1)
  unfolding is_named
  use_named e = elim (ℕ_discrete k 0) [
    | yes z ↦ (z, eqb-true b (d + 1) (sym (names_one (d + 1) b) ∙ (rw z at e)))
    | no z ↦ absurd (true≢false (sym e ∙ (rw (ne_eqb k 0 z))))
  ]

  use_unnamed : k ≡ 0 → is_named k 1 (d + 1) b ≡ false → b ≢ d + 1
  unfolding is_named
  use_unnamed z e q = true≢false (sym (eq-eqb b (d + 1) q) ∙ sym (names_one (d + 1) b) ∙ (rw z at e))

leaf_use : (d : ℕ) (t : Term) → child_count (root_kind t) ≡ 0 → free_bound t ≡ d + 1 → (f : Fields) × (t ≡ leaf variable f) × (f.a ≡ d)
unfolding free_bound
leaf_use d (leaf number f) k b = absurd (omega arith)
leaf_use d (leaf variable f) k b = (f, refl, omega arith)
leaf_use d (unary u f t) k b = absurd (omega arith)
leaf_use d (binary u f t v) k b = absurd (omega arith)
leaf_use d (ternary u f t s e) k b = absurd (omega arith)

use_wrapped_is : (n code d : ℕ) (f : Fields) → f.a ≡ d → changed (wrapping_under n code) d (leaf variable f) ≡ spliced_use code f
unfolding wrapping_under changed
use_wrapped_is n code d f q = rw (eq-eqb f.a d q)

-- Any other leaf is raised.
leaf_wrapped : (n code d : ℕ) (t : Term) → child_count (root_kind t) ≡ 0 → free_bound t ≢ d + 1 → (size t ≡ 1) × (changed (wrapping_under n code) d t ≡ changed (raising n) (d + 1) t)
unfolding wrapping_under changed free_bound size
leaf_wrapped n code d (leaf number f) k b = (refl, refl)
leaf_wrapped n code d (leaf variable f) k b = (refl, rw (ne_eqb f.a d (λ e. b (omega arith))))
leaf_wrapped n code d (unary u f t) k b = absurd (omega arith)
leaf_wrapped n code d (binary u f t v) k b = absurd (omega arith)
leaf_wrapped n code d (ternary u f t s e) k b = absurd (omega arith)

module _ (rs : List Record) (src dst n d code : ℕ) (r : Record) (e : r ≡ get_or rs src no_record) (q : Kind) (u : q ≡ kind_of r.kind) (k : ℕ) (o : k ≡ child_count q)
    (x : Bool) (i : x ≡ is_named k 1 (d + 1) (r.next / 2)) where
  root_children : (t : Term) → At rs src t → k ≡ child_count (root_kind t)
  root_children t h = o ∙ ap child_count (u ∙ read_kind rs src r e t h)

  module _ (y : x ≡ true) where
    is_use : (t : Term) → At rs src t → (f : Fields) × (t ≡ leaf variable f) × (changed (wrapping_under n code) d t ≡ spliced_use code f)
    is_use t h =
        let (z, b) = use_named d k (r.next / 2) (sym i ∙ y) in
        let (f, p, q) = leaf_use d t (sym (root_children t h) ∙ z) (sym (read_bound rs src r e t h) ∙ b) in
        (f, p, ap (changed (wrapping_under n code) d) p ∙ use_wrapped_is n code d f q)

    pub use_room : CanCopy (Wrapping n code) rs src dst d → RoomForUse rs dst
    use_room h =
        let (f, p, q) = is_use h.tree h.copy.there in
        record { two = omega (arith, h.copy.fits.room, h.copy.fits.within, ap (λ c. size (changed c d h.tree)) h.meant.change ∙ ap size q ∙ use_size code f) }

    pub use_does : (rs' : List Record) (end : ℕ) → PutsUse rs rs' dst r code end → Copies (Wrapping n code) rs rs' src dst d end
    use_does rs' end w = record {
      does = λ lo hi b c t s h.
          let (f, p, q) = is_use t h.there in
          rw (ap (λ c. changed c d t) s.change ∙ q) (w.does f (read_root rs src r e t h.there ∙ ap head p));
    }

  module _ (y : x ≡ false) (z : k ≡ 0) where
    is_raised : (t : Term) → At rs src t → (size t ≡ 1) × (changed (wrapping_under n code) d t ≡ changed (raising n) (d + 1) t)
    is_raised t h = leaf_wrapped n code d t (sym (root_children t h) ∙ z) (λ q. use_unnamed d k (r.next / 2) z (sym i ∙ y) (read_bound rs src r e t h ∙ q))

    raising_of : (lo hi b : ℕ) (c : Change) (t : Term) → Wrapping n code rs lo hi c b → CopyAt c b rs lo hi src dst d t → RaisingAt rs src dst n (d + 1) t
    raising_of lo hi b c t s h =
        let (m, q) = is_raised t h.there in
        let f = h.fits in
        let g = size_some (changed c d t) in
        record {
          there = h.there;
          room = omega (arith, f.room, f.within);
          apart = ⊎_elim (λ u. inl (omega (arith, f.start))) (λ u. inr (omega (arith, f.room))) f.outside;
          small = omega (arith, f.low, s.reach);
          deep = omega (arith, f.low);
        }

    pub wrap_leaf_can : CanCopy (Wrapping n code) rs src dst d → CanRaise rs src dst n (d + 1)
    wrap_leaf_can h = record { tree = h.tree; raises = raising_of h.lo h.hi h.reach h.change h.tree h.meant h.copy }

    pub wrap_leaf_does : (rs' : List Record) → Raises rs rs' src dst n (d + 1) → Copies (Wrapping n code) rs rs' src dst d (dst + 1)
    wrap_leaf_does rs' w = record {
      does = λ lo hi b c t s h.
          let (m, q) = is_raised t h.there in
          let a : changed c d t ≡ changed (raising n) (d + 1) t = ap (λ c. changed c d t) s.change ∙ q in
          rw a (record { records = w.does t (raising_of lo hi b c t s h); end = ap (λ u. dst + u) (sym (size_raised n (d + 1) t ∙ m)) });
    }

pub wrap_known : (rs : List Record) (src dst n d code : ℕ) (r : Record) → r ≡ get_or rs src no_record → CanCopy (Wrapping n code) rs src dst d → IsKind r.kind
wrap_known rs src dst n d code r e h = root_known rs src r e h.tree h.copy.there

pub wrap_field : (rs : List Record) (src dst n d code : ℕ) (r : Record) → r ≡ get_or rs src no_record → CanCopy (Wrapping n code) rs src dst d → (k : Kind) → k ≡ kind_of r.kind → FieldFits n (d + 1) k r.fields.a
wrap_field rs src dst n d code r e h = index_fits rs src r e h.tree h.copy.there n (d + 1) (omega (arith, h.copy.fits.low, h.meant.reach))

-- The laws of copies, of this way: search knows it by its name.
module _ (rs : List Record) (src dst n d code : ℕ) (r : Record) (e : r ≡ get_or rs src no_record) (l : r.next / 2 ≤ d) where
  pub wrap_block_can : CanCopy (Wrapping n code) rs src dst d → (z : ℕ) → z ≡ r.first → CanMove rs src dst z
  wrap_block_can h z q = rw q (block_can (Wrapping n code) 1 _ (wrapping_sound n code) rs src dst d r e l h)

  pub wrap_block_does : (rs' : List Record) (o : ℕ) → BlockMoved rs rs' src dst r.first o → Copies (Wrapping n code) rs rs' src dst d o
  wrap_block_does = block_does (Wrapping n code) 1 _ (wrapping_sound n code) rs src dst d r e l

-- The loop over the c children.
pub record Wraps (rs₁ : List Record) (src dst n code d : ℕ) (k : Kind) (c : ℕ) (rs : List Record) (at to j : ℕ) : Type 0 where
  count : c ≡ child_count k
  copying : Copying (Wrapping n code) 1 rs₁ src dst d k rs at to j

-- Its root, the record r, is written with the index a.
module _ (rs rs₁ : List Record) (src dst n d code : ℕ) (r : Record) (e : r ≡ get_or rs src no_record) (l : d < r.next / 2) (k : Kind) (q : k ≡ kind_of r.kind)
    (a : ℕ) (m : a ≡ moved_field (raised_index n (d + 1)) k r.fields.a) (w : PutsIndexed rs rs₁ dst r a) (c : ℕ) (z : c ≢ 0) where
  moves : MovesRoot (raised_index n (d + 1)) rs rs₁ dst r
  moves = root_moves (raised_index n (d + 1)) rs rs₁ dst r k q a m w

  pub wrap_starts : c ≡ child_count k → CanCopy (Wrapping n code) rs src dst d → Wraps rs₁ src dst n code d k c rs₁ (src + 1) (dst + 1) 0
  wrap_starts o h = record {
    count = o;
    copying = rw q (copy_starts (Wrapping n code) 1 _ (wrapping_sound n code) rs src dst d r e l c (o ∙ ap child_count q) false (named_other c 1 d r.fields.a z) refl rs₁ moves h);
  }

  pub wrap_ends : (rs₂ : List Record) (at to j : ℕ) → Wraps rs₁ src dst n code d k c rs₂ at to j → c ≤ j → (rs₃ : List Record) (end : ℕ) → MarksRoot rs₂ rs₃ dst end → Copies (Wrapping n code) rs rs₃ src dst d end
  wrap_ends rs₂ at to j p = copy_ends (Wrapping n code) 1 _ (wrapping_sound n code) rs src dst d r e l c (p.count ∙ ap child_count q) false (named_other c 1 d r.fields.a z) refl rs₁ moves rs₂ at to j (rw q at p.copying)

-- A turn of the loop. What the code computes for the child is a premise of its own.
module _ (rs₁ : List Record) (src dst n code d : ℕ) (k : Kind) (c : ℕ) (rs : List Record) (at to j : ℕ) (p : Wraps rs₁ src dst n code d k c rs at to j) where
  module _ (l : j < c) where
    pub wrap_tree : HasTree rs at
    wrap_tree = turn_tree (Wrapping n code) 1 _ (wrapping_sound n code) rs₁ src dst d k rs at to j c p.copying p.count l

    module _ (m : ℕ) (o : m ≡ binders_over k j) where
      pub wrap_can : (e n' code' : ℕ) → e ≡ d + m → n' ≡ n → code' ≡ code → CanCopy (Wrapping n' code') rs at to e
      wrap_can e n' code' q u v = rw (q, u, v) (turn_can (Wrapping n code) 1 _ (wrapping_sound n code) rs₁ src dst d k rs at to j c p.copying p.count l m o)

    pub wrap_next : (end : ℕ) → Skips rs at end → (rs' : List Record) (to' m : ℕ) → Copies (Wrapping n code) rs rs' at to (d + m) to' → m ≡ binders_over k j
        → Wraps rs₁ src dst n code d k c rs' end to' (j + 1)
    wrap_next end sk rs' to' m w o = record {
      count = p.count;
      copying = turn_next (Wrapping n code) 1 _ (wrapping_sound n code) rs₁ src dst d k rs at to j c p.copying p.count l m o end sk rs' to' w;
    }

  pub wrap_rooted : c ≤ j → HasRooted rs dst
  wrap_rooted l = copy_rooted (Wrapping n code) 1 _ (wrapping_sound n code) rs₁ src dst d k rs at to j c p.copying p.count l

-- What falls: the records from the tree on.
pub wrap_falls : (s₀ : List ℕ) (src q : ℕ) → length (records_in s₀) - src ≡ q → (s₁ : List ℕ) (dst n code d : ℕ) (k : Kind) (c : ℕ) (s : List ℕ) (at to j : ℕ)
    → Wraps (records_in s₁) src dst n code d k c (records_in s) at to j → j < c → length s₁ ≡ length s₀ → length (records_in s) - at < q
wrap_falls s₀ src q g s₁ dst n code d k c s at to j p l y =
    copy_falls (Wrapping n code) 1 _ (wrapping_sound n code) s₁ src dst d k s at to j c p.copying p.count l s₀ y q g

pub ruleset wrapping_laws =
    (copy_in, copy_from_fits, use_fits, use_end_fits, use_put, wrap_block_can, wrap_block_does, wrap_tree, wrap_can, wrap_next, wrap_rooted)
