-- `copy_raised`: how its loop begins and ends, and a turn of it.
use Prim.Native.Nat.{ℕ, ◌+◌, ◌-◌, ◌*◌, ◌/◌, ◌^◌, ◌≤◌, ◌<◌}
use native.Mathlib.Omega.{arith}
use native.Mathlib.Nat.{add-zero}
use mathlib.Core.List.{List, [], ◌∷◌, ◌++◌, append-nil}
use mathlib.Core.Path.{◌≡◌, refl, sym, ap, ◌∙◌, subst}
use lib.ListN.{length, get_or}
use mir.Syntax.{w16, w64}
use mir.Val.{Fits}
use Rattle.rules.specs.Kinds.{Kind, child_count, kind_of}
use Rattle.rules.specs.Terms.{Term, root_kind, size}
use Rattle.rules.specs.Indices.{changed, raising}
use Rattle.rules.specs.Format.{Record, no_record}
use Rattle.rules.proofs.Laid.{size_some}
use Rattle.rules.proofs.FreeBounds.{changed_low, raising_low}
use Rattle.kinds.specs.Named.{IsKind}
use Rattle.records.specs.View.{records_in}
use Rattle.records.proofs.Records.{records_length}
use Rattle.terms.specs.Preorder.{puts, part, preorder, At}
use Rattle.terms.specs.Moves.{CanMove, Moved}
use Rattle.terms.specs.Children.{kids, sizes, preorders}
use Rattle.terms.proofs.Children.{kids_count}
use Rattle.terms.proofs.Trees.{length_preorder, at_first, kind_at, at_within}
use Rattle.terms.proofs.Readings.{bound_reads}
use Rattle.terms.proofs.Moving.{apart_moves}
use Rattle.copies.specs.Copying.{TreeSize}
use Rattle.copies.specs.Raising.{RaisingAt, CanRaise, Raises, CanRaiseRoot, RaisesRoot}
use Rattle.copies.proofs.Parts.{tree_read, root_known}
use Rattle.copies.proofs.RaisedLeaves.{raise, leaf_index_fits, leaf_next_fits}
use Rattle.copies.proofs.RaisedRows.{raised_trees, Uncopied, Remaining, NextTree, Pending, first_left, first_raises, first_copied, first_opened, Overs, trees_opened}

-- A tree without such an index is copied as a block; the root of one that has some is raised.
module _ (rs : List Record) (src dst n d : ℕ) (r : Record) (e : r ≡ get_or rs src no_record) where
  flat_can : CanRaise rs src dst n d → (m : ℕ) → m ≡ r.first → CanMove rs src dst m
  flat_can h m f = rw (f ∙ (tree_read rs src r e).is h.tree h.raises.there)
      (record { from = at_within rs src h.tree h.raises.there; to = h.raises.room; apart = apart_moves src dst (size h.tree) h.raises.apart })

  pub flat_does : (rs' : List Record) → r.next / 2 ≤ d → (m : ℕ) → m ≡ r.first → Moved rs rs' src dst m → Raises rs rs' src dst n d
  flat_does rs' l m f w = record {
    does = λ t h.
        let q : m ≡ length (preorder t) = f ∙ (tree_read rs src r e).is t h.there ∙ sym (length_preorder t) in
        w.is ∙ ap (puts rs dst) (ap (part rs src) q ∙ h.there.there.is ∙ ap preorder (sym (changed_low (raising n) (raising_low n) d t (omega (arith, (bound_reads rs src r e).is t h.there)))));
  }

  raise_root : d < r.next / 2 → CanRaise rs src dst n d → CanRaiseRoot rs src dst n d
  raise_root l h = record { tree = h.tree; raises = h.raises; free = omega (arith, (bound_reads rs src r e).is h.tree h.raises.there) }

-- Where it starts and where it ends.
module _ (rs : List Record) (src dst n d : ℕ) (h : CanRaise rs src dst n d) where
  pub raise_in : src < length rs
  raise_in = at_first rs src h.tree h.raises.there

  raise_room : dst < length rs
  raise_room = omega (arith, h.raises.room, size_some h.tree)

  pub raise_starts : Pending rs src dst n d rs 0 []
  unfolding raised_trees preorders sizes
  raise_starts = record {
    all = λ t g. record {
      trees = t ∷ [];
      left = record {
        enough = omega arith;
        there = rw (add-zero src, append-nil (preorder t)) g.there.there;
        from = omega arith;
        same = refl;
        low = (omega arith, tt);
        written = rw (add-zero dst, append-nil (preorder (changed (raising n) d t)));
      };
    };
    tree = h.tree;
    raises = h.raises;
  }

module _ (rs₀ : List Record) (src dst n d all : ℕ) (m : TreeSize rs₀ src all) (rs : List Record) (i : ℕ) (p : Pending rs₀ src dst n d rs i []) where
  pub raise_ends : all ≤ i → Raises rs₀ rs src dst n d
  unfolding raised_trees sizes puts
  raise_ends l = record { does = λ t h. ended t h (p.all t h).trees (p.all t h).left }
    where
      ended : (t : Term) → RaisingAt rs₀ src dst n d t → (vs : List Term) → Uncopied rs₀ src dst n d rs i [] t vs → rs ≡ puts rs₀ dst (preorder (changed (raising n) d t))
      ended t h [] r = r.written
      ended t h (v ∷ vs) r = absurd (omega (arith, m.is t h.there, r.from, size_some v))

  -- A turn: there is a tree, which can be copied.
  module _ (l : i < all) where
    module _ (t : Term) (h : RaisingAt rs₀ src dst n d t) where
      turn_next : NextTree rs₀ src dst n d rs i [] t
      unfolding sizes
      turn_next = some_tree (p.all t h).trees (p.all t h).left
        where
          some_tree : (vs : List Term) → Uncopied rs₀ src dst n d rs i [] t vs → NextTree rs₀ src dst n d rs i [] t
          some_tree [] r = absurd (omega (arith, m.is t h.there, r.from))
          some_tree (v ∷ vs) r = record { first = v; later = vs; left = r }

      turn_raises : RaisingAt rs (src + i) (dst + i) n d turn_next.first
      turn_raises = let x = turn_next in first_raises rs₀ src dst n d t h rs i [] x.first x.later x.left (omega (arith, first_left rs₀ src dst n d t h rs i [] x.first x.later x.left))

    turn_can : CanRaise rs (src + i) (dst + i) n d
    turn_can = record { tree = (turn_next p.tree p.raises).first; raises = turn_raises p.tree p.raises }

    pub turn_in : src + i < length rs
    turn_in = raise_in rs (src + i) (dst + i) n d turn_can

    turn_room : dst + i < length rs
    turn_room = raise_room rs (src + i) (dst + i) n d turn_can

    module _ (rs' : List Record) (r : Record) (e : r ≡ get_or rs (src + i) no_record) where
      -- It is copied.
      turn_copied : Raises rs rs' (src + i) (dst + i) n d → (j : ℕ) → j ≡ i + r.first → Pending rs₀ src dst n d rs' j []
      turn_copied w j f = record { all = λ t h. copied t h (turn_next t h) (w.does (turn_next t h).first (turn_raises t h)) (turn_raises t h).there; tree = p.tree; raises = p.raises }
        where
          copied : (t : Term) (h : RaisingAt rs₀ src dst n d t) (x : NextTree rs₀ src dst n d rs i [] t) → rs' ≡ puts rs (dst + i) (preorder (changed (raising n) d x.first)) → At rs (src + i) x.first
              → Remaining rs₀ src dst n d rs' j [] t
          copied t h x q a = record {
            trees = x.later;
            left = first_copied rs₀ src dst n d t h rs i [] x.first x.later x.left rs' q j (f ∙ ap (λ s. i + s) ((tree_read rs (src + i) r e).is x.first a));
          }

      -- Its root is.
      pub turn_opened : (k : Kind) → k ≡ kind_of r.kind → RaisesRoot rs rs' (src + i) (dst + i) n d → d < r.next / 2 → (fs : List ℕ) → length fs ≤ child_count k → Overs d k 0 fs → Pending rs₀ src dst n d rs' (i + 1) fs
      turn_opened k o w b fs c g = record { all = λ t h. opened t h (turn_next t h) (turn_raises t h); tree = p.tree; raises = p.raises }
        where
          opened : (t : Term) (h : RaisingAt rs₀ src dst n d t) (x : NextTree rs₀ src dst n d rs i [] t) → RaisingAt rs (src + i) (dst + i) n d x.first → Remaining rs₀ src dst n d rs' (i + 1) fs t
          opened t h x a =
              let q : k ≡ root_kind x.first = o ∙ ap (λ y. kind_of y.kind) e ∙ kind_at rs (src + i) x.first a.there in
              let m : length fs ≤ length (kids x.first) = omega (arith, kids_count x.first, ap child_count q) in
              record {
                trees = kids x.first ++ x.later;
                left = first_opened rs₀ src dst n d t h rs i x.first x.later x.left fs m
                    (trees_opened n d (root_kind x.first) x.later (kids x.first) 0 fs m (subst (λ k. Overs d k 0 fs) q g)) rs' (w.does x.first a (omega (arith, (bound_reads rs (src + i) r e).is x.first a.there)));
              }

-- Places and lengths.
module _ (s₀ : List ℕ) (src dst n d all : ℕ) (m : TreeSize (records_in s₀) src all) (s : List ℕ) (i : ℕ) (p : Pending (records_in s₀) src dst n d (records_in s) i []) (l : i < all) (b : length s₀ < 2 ^ 64) where
  all_fits : (src + all < 2 ^ 64) × (dst + all < 2 ^ 64)
  all_fits =
      let q = m.is p.tree p.raises.there in
      (omega (arith, at_within (records_in s₀) src p.tree p.raises.there, records_length s₀), omega (arith, p.raises.room, records_length s₀))

  pub turn_from_fits : Fits w64 (src + i)
  turn_from_fits = omega (arith, all_fits)

  pub turn_to_fits : Fits w64 (dst + i)
  turn_to_fits = omega (arith, all_fits)

-- What is known once the root r of the tree at hand is read: of the bytes s₀ at the start and s now.
pub record TreeRead (s₀ s : List ℕ) (src dst n d all i : ℕ) (r : Record) : Type 0 where
  pub short : length s₀ < 2 ^ 64
  pub whole : TreeSize (records_in s₀) src all
  pub row : Pending (records_in s₀) src dst n d (records_in s) i []
  pub going : i < all
  pub read : r ≡ get_or (records_in s) (src + i) no_record

module _ {s₀ s : List ℕ} {src dst n d all i : ℕ} {r : Record} (o : TreeRead s₀ s src dst n d all i r) where
  can : CanRaise (records_in s) (src + i) (dst + i) n d
  can = turn_can (records_in s₀) src dst n d all o.whole (records_in s) i o.row o.going

  pub read_fits : (src + all < 2 ^ 64) × (dst + all < 2 ^ 64)
  read_fits = all_fits s₀ src dst n d all o.whole s i o.row o.going o.short

  pub read_room : dst + i < length (records_in s)
  read_room = turn_room (records_in s₀) src dst n d all o.whole (records_in s) i o.row o.going

  pub read_known : IsKind r.kind
  read_known = root_known (records_in s) (src + i) r o.read can.tree can.raises.there

  -- A leaf.
  pub read_index_fits : r.first ≡ 1 → r.fields.a < 65536 → Fits w16 (r.fields.a + raise n d (r.next / 2))
  read_index_fits k l = leaf_index_fits (records_in s) (src + i) (dst + i) n d r o.read can k l

  pub read_next_fits : (m : ℕ) → m ≤ n → Fits w16 (r.next + 2 * m)
  read_next_fits m l = leaf_next_fits (records_in s) (src + i) (dst + i) n d r o.read can m l

  -- A block, or a root that is raised.
  pub read_moves : CanMove (records_in s) (src + i) (dst + i) r.first
  read_moves = flat_can (records_in s) (src + i) (dst + i) n d r o.read can _ refl

  pub read_root_can : d < r.next / 2 → CanRaiseRoot (records_in s) (src + i) (dst + i) n d
  read_root_can b = raise_root (records_in s) (src + i) (dst + i) n d r o.read b can

  read_size_in : (0 < r.first) × (i + r.first ≤ all)
  read_size_in =
      let h = o.row.raises in
      let x = turn_next (records_in s₀) src dst n d all o.whole (records_in s) i o.row o.going o.row.tree h in
      let y = turn_raises (records_in s₀) src dst n d all o.whole (records_in s) i o.row o.going o.row.tree h in
      let q = (tree_read (records_in s) (src + i) r o.read).is x.first y.there in
      (omega (arith, size_some x.first), omega (arith, o.whole.is o.row.tree h.there, first_left (records_in s₀) src dst n d o.row.tree h (records_in s) i [] x.first x.later x.left))

  pub read_less : all - (i + r.first) < all - i
  read_less = omega (arith, read_size_in, o.going)

  pub read_copied : (s' : List ℕ) → Raises (records_in s) (records_in s') (src + i) (dst + i) n d → (j : ℕ) → j ≡ i + r.first → Pending (records_in s₀) src dst n d (records_in s') j []
  read_copied s' w j e = turn_copied (records_in s₀) src dst n d all o.whole (records_in s) i o.row o.going (records_in s') r o.read w j e
