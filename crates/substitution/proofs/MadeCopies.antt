-- `copy_argument`: the tree of an argument is copied, and roots are put over it. `making` for search.
use Prim.Native.Nat.{ℕ, ◌+◌, ◌*◌, ◌^◌, ◌≤◌, ◌<◌}
use native.Mathlib.Omega.{arith}
use mathlib.Core.List.{List, append-nil}
use mathlib.Core.Logic.{inl, inr, ⊎_elim}
use mathlib.Core.Path.{◌≡◌, refl, sym, ap, ◌∙◌}
use lib.ListN.{length, get_or, set, length-set}
use lib.Seq.{get_or-set_same, set-set}
use mir.Syntax.{w64}
use mir.Val.{Fits}
use Rattle.rules.specs.Kinds.{Unary, function, quote, Kind, unary₁, kind_number}
use Rattle.rules.specs.Terms.{Term, unary, size}
use Rattle.rules.specs.FreeBounds.{free_bound}
use Rattle.rules.specs.Indices.{changed, raised, wrapped}
use Rattle.rules.specs.Format.{Record, no_record}
use Rattle.rules.proofs.Shifts.{raised_none}
use Rattle.rules.proofs.ChangedBounds.{raised_most}
use Rattle.records.specs.View.{records_in}
use Rattle.records.proofs.Records.{records_length}
use Rattle.terms.specs.Preorder.{puts, part, Apart, head, preorder, HasTree}
use Rattle.terms.specs.Moves.{CanMove}
use Rattle.terms.proofs.Moving.{apart_moves}
use Rattle.terms.specs.Children.{kids, preorders}
use Rattle.terms.specs.Measuring.{RootedAt, HasRooted, MarksRoot}
use Rattle.terms.proofs.There.{there_put, there_set_stays}
use Rattle.terms.proofs.Trees.{length_preorder, at_first, at_within}
use Rattle.substitution.specs.declared.arguments.Argument.TheVariants.{Tree, Quote, Opened}
use Rattle.substitution.specs.Arguments.{place_of, function_fields, described}
use Rattle.copies.specs.Raising.{RaisingAt, CanRaise, Raises}
use Rattle.copies.specs.Copying.{CopyAt, CanCopy, Written, Copies, TreeSize, BlockMoved}
use Rattle.copies.specs.Wrapping.{wrapping_under, Wrapping}
use Rattle.substitution.specs.Making.{UnderRoot, CanPutOver, PutsOver, MakingAt, CanCopyArgument, CopiesArgument}
use Rattle.copies.proofs.RaisedRoots.{size_raised}
use Rattle.terms.proofs.Puts.{put_before}
use Rattle.copies.proofs.WrappedCopies.{wraps_raised, wrapping_sound}

-- `put_over`
module _ (rs : List Record) (dst : ℕ) (kind : Kind) where
  module _ (n : ℕ) (m : n ≡ kind_number kind) (rs₁ : List Record) (ty a : ℕ) (w : rs₁ ≡ set rs dst (record { kind = n; fields = function_fields ty a; first = 0; next = 0 })) where
    over_rooted : (k : Unary) (u : Term) → kind ≡ unary₁ k → UnderRoot rs dst u → RootedAt rs₁ dst (unary k (function_fields ty a) u)
    unfolding size free_bound kids preorders
    over_rooted k u e h =
        let l : dst < length rs = omega (arith, at_first rs (dst + 1) u h.there) in
        let q : Record = record { kind = n; fields = function_fields ty a; first = 0; next = 0 } in
        let x = ap (λ z. get_or z dst no_record) w ∙ get_or-set_same rs dst q no_record l in
        record {
          within = omega (arith, ap length w ∙ length-set rs dst q);
          kind = ap (λ z. z.kind) x ∙ m ∙ ap kind_number e;
          fields = ap (λ z. z.fields) x;
          children = rw (w, append-nil) (there_set_stays rs dst q (dst + 1) (preorder u) (inr (omega arith)) h.there.there);
          few = omega (arith, h.few);
          low = omega (arith, h.low);
        }

    pub over_can : CanPutOver rs dst kind → HasRooted rs₁ dst
    over_can h = record { tree = unary h.sort (function_fields ty a) h.tree; there = over_rooted h.sort h.tree h.is h.under }

    pub over_puts : (rs₂ : List Record) (r : ℕ) → MarksRoot rs₁ rs₂ dst r → PutsOver rs rs₂ dst kind ty a r
    unfolding size
    over_puts rs₂ r m = record {
      does = λ k u e h.
          let (p, q) = m.does (unary k (function_fields ty a) u) (over_rooted k u e h) in
          (p ∙ ap (λ z. set z dst (head (unary k (function_fields ty a) u))) w ∙ set-set rs dst _ _, omega arith);
    }

-- A root that is put over a tree that was written.
module _ (rs rs₁ : List Record) (dst e : ℕ) (u : Term) (w : Written rs rs₁ (dst + 1) u e) (b : dst + 1 + size u ≤ length rs) (f : size u < 65535) (l : 2 * free_bound u + 1 < 65536) where
  under_root : UnderRoot rs₁ dst u
  under_root = record { there = record { there = rw w.records (there_put rs (dst + 1) (preorder u) (omega (arith, length_preorder u))) }; few = f; low = l }

  can_over : (k : Unary) → CanPutOver rs₁ dst (unary₁ k)
  can_over k = record { sort = k; is = refl; tree = u; under = under_root }

  over_written : (k : Unary) (rs₂ : List Record) (ty a r : ℕ) → PutsOver rs₁ rs₂ dst (unary₁ k) ty a r → Written rs rs₂ dst (unary k (function_fields ty a) u) r
  unfolding preorder size
  over_written k rs₂ ty a r p =
      let (x, y) = p.does k u refl under_root in
      record { records = x ∙ ap (λ z. set z dst (head (unary k (function_fields ty a) u))) w.records ∙ put_before rs dst _ (preorder u); end = omega arith }

-- `copy_tree`
module _ (rs : List Record) (at dst n : ℕ) where
  module _ (lo hi : ℕ) (t : Term) (h : MakingAt rs lo hi (Tree at) dst n t) where
    tree_room : dst + size h.stands.tree ≤ hi
    unfolding described
    tree_room = omega (arith, h.room, ap size h.stands.is)

    tree_apart : Apart at dst (size h.stands.tree)
    unfolding place_of
    tree_apart = ⊎_elim (λ x. inl (omega (arith, h.start))) (λ x. inr (omega (arith, tree_room))) h.stands.outside

    raising_tree : RaisingAt rs at dst n 0 h.stands.tree
    unfolding place_of
    raising_tree = record {
      there = h.stands.there;
      room = omega (arith, tree_room, h.within);
      apart = tree_apart;
      small = omega (arith, h.low);
      deep = omega (arith, h.low);
    }

  pub tree_there : CanCopyArgument rs (Tree at) dst n → HasTree rs at
  unfolding place_of
  tree_there h = record { tree = h.makes.stands.tree; there = h.makes.stands.there }

  pub tree_raises : CanCopyArgument rs (Tree at) dst n → CanRaise rs at dst n 0
  tree_raises h = record { tree = h.makes.stands.tree; raises = raising_tree _ _ _ h.makes }

  module _ (z : ℕ) (w : TreeSize rs at z) where
    pub tree_moves : CanCopyArgument rs (Tree at) dst n → CanMove rs at dst z
    unfolding place_of
    tree_moves h =
        let m = h.makes in
        rw (w.is m.stands.tree m.stands.there)
        (record { from = at_within rs at _ m.stands.there; to = omega (arith, tree_room _ _ _ m, m.within); apart = apart_moves at dst _ (tree_apart _ _ _ m) })

    pub tree_moved : n ≡ 0 → (rs' : List Record) (r : ℕ) → BlockMoved rs rs' at dst z r → CopiesArgument rs rs' (Tree at) dst n r
    unfolding place_of described
    tree_moved e rs' r q = record {
      does = λ lo hi t h.
          let u = h.stands.tree in
          let s = w.is u h.stands.there in
          let k : z ≡ length (preorder u) = s ∙ sym (length_preorder u) in
          rw (e, raised_none t, h.stands.is) (record { records = q.moved.is ∙ ap (puts rs dst) (ap (part rs at) k ∙ h.stands.there.there.is); end = q.end ∙ ap (λ x. dst + x) s });
    }

    pub tree_does : (rs' : List Record) → Raises rs rs' at dst n 0 → CopiesArgument rs rs' (Tree at) dst n (dst + z)
    unfolding place_of described raised
    tree_does rs' q = record {
      does = λ lo hi t h.
          let u = h.stands.tree in
          rw h.stands.is (record { records = q.does u (raising_tree lo hi t h); end = ap (λ x. dst + x) (w.is u h.stands.there ∙ sym (size_raised n 0 u)) });
    }

pub tree_fits : (s : List ℕ) (at dst n z : ℕ) → CanCopyArgument (records_in s) (Tree at) dst n → TreeSize (records_in s) at z → length s < 2 ^ 64 → Fits w64 (dst + z)
unfolding place_of
tree_fits s at dst n z h w b =
    omega (arith, w.is h.makes.stands.tree h.makes.stands.there, tree_room (records_in s) at dst n _ _ _ h.makes, h.makes.within, records_length s)

-- `copy_quoted`
module _ (rs : List Record) (at ty dst n : ℕ) where
  module _ (lo hi : ℕ) (t : Term) (h : MakingAt rs lo hi (Quote at ty) dst n t) where
    abbrev quoted_tree : Term
    quoted_tree = h.stands.tree

    quoted_makes : MakingAt rs lo hi (Tree at) (dst + 1) n quoted_tree
    unfolding place_of described size
    quoted_makes = record {
      stands = record { tree = quoted_tree; there = h.stands.there; outside = h.stands.outside; is = refl };
      start = omega (arith, h.start);
      room = omega (arith, h.room, ap size h.stands.is);
      within = h.within;
      few = h.few;
      low = h.low;
    }

    quoted_room : dst + 1 + size (raised n quoted_tree) ≤ length rs
    unfolding raised
    quoted_room = omega (arith, quoted_makes.room, size_raised n 0 quoted_tree, h.within)

    quoted_few : size (raised n quoted_tree) < 65535
    unfolding raised
    quoted_few = omega (arith, size_raised n 0 quoted_tree, h.low)

    quoted_low : 2 * free_bound (raised n quoted_tree) + 1 < 65536
    unfolding raised
    quoted_low = omega (arith, raised_most n 0 quoted_tree, h.low)

  pub quoted_copies : CanCopyArgument rs (Quote at ty) dst n → CanCopyArgument rs (Tree at) (dst + 1) n
  quoted_copies h = record { lo = h.lo; hi = h.hi; term = _; makes = quoted_makes _ _ _ h.makes }

  module _ (rs₁ : List Record) (e : ℕ) (w : CopiesArgument rs rs₁ (Tree at) (dst + 1) n e) where
    pub quoted_over : CanCopyArgument rs (Quote at ty) dst n → CanPutOver rs₁ dst (unary₁ quote)
    quoted_over h =
        let m = h.makes in
        can_over rs rs₁ dst e _ (w.does _ _ _ (quoted_makes _ _ _ m)) (quoted_room _ _ _ m) (quoted_few _ _ _ m) (quoted_low _ _ _ m) quote

    pub quoted_does : (rs₂ : List Record) (r : ℕ) → PutsOver rs₁ rs₂ dst (unary₁ quote) ty 0 r → CopiesArgument rs rs₂ (Quote at ty) dst n r
    unfolding described raised changed
    quoted_does rs₂ r p = record {
      does = λ lo hi t h.
          rw h.stands.is
          (over_written rs rs₁ dst e _ (w.does lo hi _ (quoted_makes lo hi t h)) (quoted_room lo hi t h) (quoted_few lo hi t h) (quoted_low lo hi t h) quote rs₂ ty 0 r p);
    }

-- `copy_opened`
module _ (rs : List Record) (at ty a b dst n : ℕ) where
  abbrev opened_body : Term → Term
  opened_body u = changed (wrapping_under n a) 0 u

  module _ (lo hi : ℕ) (t : Term) (h : MakingAt rs lo hi (Opened at ty a b) dst n t) where
    abbrev opened_tree : Term
    opened_tree = h.stands.tree

    opened_is : raised n t ≡ unary function (function_fields ty a) (unary quote (function_fields b 0) (opened_body opened_tree))
    unfolding described raised changed wrapped
    opened_is = ap (raised n) h.stands.is ∙ ap (λ z. unary function (function_fields ty a) (unary quote (function_fields b 0) z)) (sym (wraps_raised n a 0 opened_tree))

    opened_size : size t ≡ 2 + size (opened_body opened_tree)
    unfolding raised size
    opened_size = sym (size_raised n 0 t) ∙ ap size opened_is ∙ (omega arith)

    opened_copy : CopyAt (wrapping_under n a) n rs lo hi at (dst + 1 + 1) 0 opened_tree
    unfolding place_of
    opened_copy = record {
      there = h.stands.there;
      fits = record {
        outside = h.stands.outside;
        start = omega (arith, h.start);
        room = omega (arith, h.room, opened_size);
        within = h.within;
        few = h.few;
        low = omega (arith, h.low);
      };
    }

    module _ (rs₁ : List Record) (e : ℕ) (w : Copies (Wrapping n a) rs rs₁ at (dst + 1 + 1) 0 e) where
      opened_written : Written rs rs₁ (dst + 1 + 1) (opened_body opened_tree) e
      opened_written = w.does lo hi n (wrapping_under n a) opened_tree (record { change = refl; reach = refl }) opened_copy

      opened_room : dst + 1 + 1 + size (opened_body opened_tree) ≤ length rs
      opened_room = omega (arith, h.room, opened_size, h.within)

      opened_few : size (opened_body opened_tree) < 65534
      opened_few = omega (arith, h.room, opened_size, h.few)

      opened_low : 2 * free_bound (opened_body opened_tree) + 1 < 65536
      opened_low = omega (arith, (wrapping_sound n a).reach rs lo hi n (wrapping_under n a) (record { change = refl; reach = refl }) 0 opened_tree, h.low)

      module _ (rs₂ : List Record) (o : ℕ) (q : PutsOver rs₁ rs₂ (dst + 1) (unary₁ quote) b 0 o) where
        abbrev opened_quote : Term
        opened_quote = unary quote (function_fields b 0) (opened_body opened_tree)

        quote_written : Written rs rs₂ (dst + 1) opened_quote o
        quote_written = over_written rs rs₁ (dst + 1) e _ opened_written opened_room (omega (arith, opened_few)) opened_low quote rs₂ b 0 o q

        quote_room : dst + 1 + size opened_quote ≤ length rs
        unfolding size
        quote_room = omega (arith, opened_room)

        quote_few : size opened_quote < 65535
        unfolding size
        quote_few = omega (arith, opened_few)

        quote_low : 2 * free_bound opened_quote + 1 < 65536
        unfolding free_bound
        quote_low = omega (arith, opened_low)

  pub opened_wraps : CanCopyArgument rs (Opened at ty a b) dst n → CanCopy (Wrapping n a) rs at (dst + 1 + 1) 0
  opened_wraps h = record {
    lo = h.lo;
    hi = h.hi;
    reach = n;
    change = wrapping_under n a;
    tree = h.makes.stands.tree;
    meant = record { change = refl; reach = refl };
    copy = opened_copy h.lo h.hi h.term h.makes;
  }

  module _ (rs₁ : List Record) (e : ℕ) (w : Copies (Wrapping n a) rs rs₁ at (dst + 1 + 1) 0 e) where
    pub opened_inner : CanCopyArgument rs (Opened at ty a b) dst n → CanPutOver rs₁ (dst + 1) (unary₁ quote)
    opened_inner h =
        let m = h.makes in
        can_over rs rs₁ (dst + 1) e _ (opened_written _ _ _ m rs₁ e w) (opened_room _ _ _ m rs₁ e w) (omega (arith, opened_few _ _ _ m rs₁ e w)) (opened_low _ _ _ m rs₁ e w) quote

    module _ (rs₂ : List Record) (o : ℕ) (q : PutsOver rs₁ rs₂ (dst + 1) (unary₁ quote) b 0 o) where
      pub opened_does : (rs₃ : List Record) (r : ℕ) → PutsOver rs₂ rs₃ dst (unary₁ function) ty a r → CopiesArgument rs rs₃ (Opened at ty a b) dst n r
      opened_does rs₃ r p = record {
        does = λ lo hi t h.
            rw (opened_is lo hi t h)
            (over_written rs rs₂ dst o _ (quote_written lo hi t h rs₁ e w rs₂ o q) (quote_room lo hi t h rs₁ e w rs₂ o q) (quote_few lo hi t h rs₁ e w rs₂ o q) (quote_low lo hi t h rs₁ e w rs₂ o q) function rs₃ ty a r p);
      }

-- The function comes over the quote.
pub opened_outer : (rs : List Record) (at ty a b dst n : ℕ) → CanCopyArgument rs (Opened at ty a b) dst n → (rs₁ : List Record) (e : ℕ) → Copies (Wrapping n a) rs rs₁ at (dst + 1 + 1) 0 e
    → (rs₂ : List Record) (o : ℕ) → PutsOver rs₁ rs₂ (dst + 1) (unary₁ quote) b 0 o → (rs₃ : List Record) → rs₃ ≡ rs₂ → CanPutOver rs₃ dst (unary₁ function)
opened_outer rs at ty a b dst n h rs₁ e w rs₂ o q rs₃ z = rw z (
    let m = h.makes in
    can_over rs rs₂ dst o _
    (quote_written rs at ty a b dst n _ _ _ m rs₁ e w rs₂ o q)
    (quote_room rs at ty a b dst n _ _ _ m rs₁ e w rs₂ o q)
    (quote_few rs at ty a b dst n _ _ _ m rs₁ e w rs₂ o q)
    (quote_low rs at ty a b dst n _ _ _ m rs₁ e w rs₂ o q)
    function)

pub ruleset making =
    (over_can, over_puts, tree_there, tree_raises, tree_moves, tree_moved, tree_does, tree_fits, quoted_copies, quoted_over, quoted_does, opened_wraps, opened_inner, opened_outer, opened_does)
