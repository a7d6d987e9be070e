-- `first_splice`: the laws of its loop, which goes through a tree from root to root, passes the trees that hold no splice at level 1, and stops at a
-- splice; and what `find1` makes of its answer. `scanning` and `splicing` for search.
use Prim.Native.Nat.{ℕ, suc, ◌+◌, ◌-◌, ◌*◌, ◌^◌, ◌≤◌, ◌<◌}
use native.Mathlib.Omega.{arith}
use mathlib.Core.Path.{◌≡◌, refl, sym, ap, subst, ◌∙◌}
use mathlib.Core.Bool.{Bool, true, false, ◌&&◌, not}
use mathlib.Core.List.{List, [], ◌∷◌, ◌++◌, append-nil}
use lib.Dec.{T}
use Rattle.std.specs.Prelude.{Some}
use lib.ListN.{length, get_or, length-append}
use mir.Facts.{and_yes}
use mir.Syntax.{w16, w64}
use mir.Val.{Fits}
use Rattle.rules.specs.Kinds.{function, fix, lift, quote, splice, application, match, child_count}
use Rattle.rules.specs.Terms.{Fields, Term, leaf, unary, binary, ternary, root_kind, size}
use Rattle.rules.specs.Contractions.{contracts}
use Rattle.rules.specs.Format.{Record, no_record}
use Rattle.rules.specs.Values.{plain_kind, plain}
use Rattle.rules.proofs.General.{is_true}
use Rattle.rules.proofs.Laid.{size_some}
use Rattle.kinds.specs.declared.names.Kind.{Kind}
use Rattle.kinds.specs.Named.{kind_meant}
use Rattle.records.specs.View.{records_in}
use Rattle.records.proofs.Records.{records_length}
use Rattle.terms.specs.Children.{kids, sizes, preorders}
use Rattle.terms.proofs.Children.{sizes_append, count_sizes, kids_count, kids_sizes}
use Rattle.terms.specs.Preorder.{preorder, There, At, HasTree, Skips}
use Rattle.terms.specs.Measuring.{HasKind, KindIs}
use Rattle.terms.proofs.There.{there_both}
use Rattle.terms.proofs.Readings.{tree_kind}
use Rattle.terms.proofs.Trees.{length_preorders, preorders_append, at_first, size_read, at_within, kids_there, first_tree, later_trees}
use Rattle.redexes.specs.declared.Found.{Found}
use Rattle.redexes.specs.declared.Found.TheVariants.{Done, Redex}
use Rattle.redexes.specs.Finding.{or_else, searched, or_here, find, Finds, SpliceBelow, SpliceAt, FindsSplice, splice_there, no_splice}
use Rattle.redexes.proofs.Ends.{EndsAt, ends, done_found}
use Rattle.redexes.proofs.Cases.{root_after, first_there, kind_seen}

-- What is found at level 1 in trees that stand one after another from i on.
unfoldable pub find_all : List Term → ℕ → Found
find_all [] i = Done i
find_all (t ∷ ts) i = or_else (find 1 t i) (find_all ts (i + size t))

else_end : (x : Found) (n : ℕ) → EndsAt n x → or_else x (Done n) ≡ x
unfolding or_else
else_end (Done e) n h = ap Done (sym h)
else_end (Redex p) n h = refl

else_assoc : (x y z : Found) → or_else (or_else x y) z ≡ or_else x (or_else y z)
unfolding or_else
else_assoc (Done e) y z = refl
else_assoc (Redex p) y z = refl

found_append : (ts us : List Term) (i : ℕ) → find_all (ts ++ us) i ≡ or_else (find_all ts i) (find_all us (i + sizes ts))
unfolding find_all or_else sizes
found_append [] us i = let e : i + 0 ≡ i = omega arith in rw e
found_append (t ∷ ts) us i =
    let e : i + size t + sizes ts ≡ i + (size t + sizes ts) = omega arith in
    ap (or_else (find 1 t i)) (found_append ts us (i + size t) ∙ ap (λ n. or_else (find_all ts (i + size t)) (find_all us n)) e)
    ∙ sym (else_assoc (find 1 t i) (find_all ts (i + size t)) (find_all us (i + (size t + sizes ts))))

-- Under a root of a plain kind the children are searched, one after another.
plain_root : (t : Term) (i : ℕ) → plain_kind (root_kind t) ≡ true → find 1 t i ≡ find_all (kids t) (i + 1)
unfolding find find_all kids searched size
plain_root (leaf k f) i h = refl
plain_root (unary function f t) i h = let e : i + (1 + size t) ≡ i + 1 + size t = omega arith in rw e
plain_root (unary fix f t) i h = let e : i + (1 + size t) ≡ i + 1 + size t = omega arith in rw e
plain_root (unary lift f t) i h = absurd (subst T (sym h) tt)
plain_root (unary quote f t) i h = absurd (subst T (sym h) tt)
plain_root (unary splice f t) i h = absurd (subst T (sym h) tt)
plain_root (binary application f t u) i h = let e : i + (1 + size t + size u) ≡ i + 1 + size t + size u = omega arith in rw e
plain_root (ternary (match k) f t s e) i h = absurd (subst T (sym h) tt)

-- A root of another kind that isn't rewritten is not searched.
other_root : (t : Term) (i : ℕ) → plain_kind (root_kind t) ≡ false → contracts 1 (root_kind t) ≡ false → find 1 t i ≡ Done (i + size t)
unfolding find searched
other_root (leaf k f) i h n = absurd (subst T h tt)
other_root (unary function f t) i h n = absurd (subst T h tt)
other_root (unary fix f t) i h n = absurd (subst T h tt)
other_root (unary lift f t) i h n = refl
other_root (unary quote f t) i h n = refl
other_root (unary splice f t) i h n = absurd (subst T n tt)
other_root (binary application f t u) i h n = absurd (subst T h tt)
other_root (ternary (match k) f t s e) i h n = refl

-- So a tree is passed, where it is plain or its root is of no kind that is searched.
passed_root : (t : Term) (i : ℕ) → false ≡ not (plain t) && plain_kind (root_kind t) → contracts 1 (root_kind t) ≡ false → find 1 t i ≡ Done (i + size t)
passed_root t i h n = go (plain t) refl h
  where
    go : (b : Bool) → plain t ≡ b → false ≡ not b && plain_kind (root_kind t) → find 1 t i ≡ Done (i + size t)
    go true e q = done_found t 1 i (subst T (sym e) tt)
    go false e q = other_root t i (sym q) n

-- A root that is rewritten is a splice, and ends the search.
spliced : (rs : List Record) (i at : ℕ) (u t : Term) (y : Found) → At rs at u → size u ≤ size t → contracts 1 (root_kind u) ≡ true → or_else (find 1 u at) y ≡ find 1 t i → SpliceAt rs i at t
unfolding find searched or_else
spliced rs i at (leaf k f) t y h a n e = absurd (subst T (sym n) tt)
spliced rs i at (unary function f u) t y h a n e = absurd (subst T (sym n) tt)
spliced rs i at (unary fix f u) t y h a n e = absurd (subst T (sym n) tt)
spliced rs i at (unary lift f u) t y h a n e = absurd (subst T (sym n) tt)
spliced rs i at (unary quote f u) t y h a n e = absurd (subst T (sym n) tt)
spliced rs i at (unary splice f u) t y h a n e = record { fields = f; code = u; there = h; inside = a; same = sym e ∙ else_assoc (find 0 u (at + 1)) (Redex at) y }
spliced rs i at (binary application f u v) t y h a n e = absurd (subst T (sym n) tt)
spliced rs i at (ternary (match k) f u v w) t y h a n e = absurd (subst T (sym n) tt)

-- From `at` on, p trees of the tree t at i are left, and what is found in it is what is found in them.
record Scanned (rs : List Record) (i at p : ℕ) (t : Term) : Type 0 where
  trees : List Term
  there : There rs at (preorders trees)
  count : length trees ≡ p
  after : i ≤ at
  place : at + sizes trees ≡ i + size t
  same : find_all trees at ≡ find 1 t i

pub record Scanning (rs : List Record) (i at p : ℕ) : Type 0 where
  all : (t : Term) → At rs i t → Scanned rs i at p t
  some : HasTree rs i

only_tree : (rs : List Record) (i : ℕ) (t : Term) → At rs i t → There rs i (preorders (t ∷ []))
unfolding preorders
only_tree rs i t h = rw (append-nil (preorder t)) h.there

pub scan_starts : (rs : List Record) (i : ℕ) → HasTree rs i → Scanning rs i i 1
unfolding find_all sizes
scan_starts rs i h = record { all = λ t a. record { trees = t ∷ []; there = only_tree rs i t a; count = refl; after = omega arith; place = omega arith; same = else_end (find 1 t i) (i + size t) (ends 1 t i) }; some = h }

module _ (rs : List Record) (i at p : ℕ) (s : Scanning rs i at p) where
  pub scan_ends : p ≤ 0 → FindsSplice rs i (Done at)
  unfolding find_all
  scan_ends z = no_splice at (λ t h. let q = s.all t h in go t q.trees q.count q.same)
    where
      go : (t : Term) (ts : List Term) → length ts ≡ p → find_all ts at ≡ find 1 t i → find 1 t i ≡ Done at
      go t [] c e = sym e
      go t (u ∷ us) c e = absurd (omega arith)

  scan_count : at + p ≤ length rs
  scan_count = let h = s.some in let q = s.all h.tree h.there in omega (arith, q.count, q.place, count_sizes q.trees, at_within rs i h.tree h.there)

  -- The first of the trees, and those after it.
  record Ahead (t : Term) : Type 0 where
    tree : Term
    later : List Term
    there : At rs at tree
    beyond : There rs (at + size tree) (preorders later)
    count : suc (length later) ≡ p
    after : i ≤ at
    place : at + size tree + sizes later ≡ i + size t
    same : or_else (find 1 tree at) (find_all later (at + size tree)) ≡ find 1 t i

  module _ (z : 0 < p) where
    ahead : (t : Term) → At rs i t → Ahead t
    unfolding find_all sizes
    ahead t h = let q = s.all t h in go q.trees q.there q.count q.after q.place q.same
      where
        go : (ts : List Term) → There rs at (preorders ts) → length ts ≡ p → i ≤ at → at + sizes ts ≡ i + size t → find_all ts at ≡ find 1 t i → Ahead t
        go [] g c a o e = absurd (omega arith)
        go (u ∷ us) g c a o e = record { tree = u; later = us; there = first_tree rs at u us g; beyond = later_trees rs at u us g; count = c; after = a; place = omega arith; same = e }

    abbrev held : Ahead s.some.tree
    held = ahead s.some.tree s.some.there

    pub scan_tree : HasTree rs at
    scan_tree = record { tree = held.tree; there = held.there }

    pub scan_known : HasKind rs at
    scan_known = tree_kind rs at scan_tree

    pub scan_shortens : i + (get_or rs i no_record).first - (at + 1) < i + (get_or rs i no_record).first - at
    scan_shortens = omega (arith, size_read rs i s.some.tree s.some.there, held.place, size_some held.tree)

    pub scan_shortens_past : (d : ℕ) → Skips rs at d → i + (get_or rs i no_record).first - d < i + (get_or rs i no_record).first - at
    scan_shortens_past d k = omega (arith, size_read rs i s.some.tree s.some.there, k.is held.tree held.there, held.place, size_some held.tree)

    module _ (k : Kind) (a : KindIs rs at k) where
      pub scan_stops : (b : Bool) → b ≡ contracts 1 (kind_meant k) → b ≡ true → FindsSplice rs i (Redex at)
      scan_stops b e y = splice_there at (λ t h.
          let q = ahead t h in
          spliced rs i at q.tree t _ q.there (omega (arith, q.place, q.after)) (sym (ap (contracts 1) (kind_seen rs at k a q.tree q.there)) ∙ sym e ∙ y) q.same)

      module _ (c : Bool) (l : SpliceBelow rs at k c) where
        below_is : (u : Term) → At rs at u → c ≡ not (plain u) && plain_kind (root_kind u)
        below_is u g = rw (← kind_seen rs at k a u g) (l.is u g)

        pub scan_enters : c ≡ true → (m : ℕ) → m ≡ child_count (kind_meant k) → Scanning rs i (at + 1) (p - 1 + m)
        scan_enters y m o = record { all = λ t h. go t (ahead t h); some = s.some }
          where
            go : (t : Term) → Ahead t → Scanned rs i (at + 1) (p - 1 + m) t
            go t q =
                let u = q.tree in
                let j = kind_seen rs at k a u q.there in
                let x : at + 1 + sizes (kids u) ≡ at + size u = omega (arith, kids_sizes u) in
                let y' : at + 1 + length (preorders (kids u)) ≡ at + size u = omega (arith, length_preorders (kids u), kids_sizes u) in
                let v : plain_kind (root_kind u) ≡ true = is_true (plain_kind (root_kind u)) (and_yes (not (plain u)) (plain_kind (root_kind u)) (subst T (sym y ∙ below_is u q.there) tt)).1 in
                record {
                  trees = kids u ++ q.later;
                  there = rw (preorders_append (kids u) q.later) (there_both rs (at + 1) (preorders (kids u)) (preorders q.later) (kids_there rs at u q.there) (rw y' q.beyond));
                  count = omega (arith, length-append (kids u) q.later, kids_count u, ap child_count j, q.count);
                  after = omega (arith, q.after);
                  place = omega (arith, sizes_append (kids u) q.later, kids_sizes u, q.place);
                  same =
                      found_append (kids u) q.later (at + 1) ∙ ap (λ n. or_else (find_all (kids u) (at + 1)) (find_all q.later n)) x
                      ∙ ap (λ r. or_else r (find_all q.later (at + size u))) (sym (plain_root u at v)) ∙ q.same;
                }

        pub scan_passes : (b : Bool) → b ≡ contracts 1 (kind_meant k) → b ≡ false → c ≡ false → (d : ℕ) → Skips rs at d → Scanning rs i d (p - 1)
        unfolding or_else
        scan_passes b e n y d sk = record { all = λ t h. go t (ahead t h); some = s.some }
          where
            go : (t : Term) → Ahead t → Scanned rs i d (p - 1) t
            go t q =
                let u = q.tree in
                let x : d ≡ at + size u = sk.is u q.there in
                let f = passed_root u at (sym y ∙ below_is u q.there) (sym (ap (contracts 1) (kind_seen rs at k a u q.there)) ∙ sym e ∙ n) in
                rw x (record {
                  trees = q.later;
                  there = q.beyond;
                  count = omega (arith, q.count);
                  after = omega (arith, q.after);
                  place = q.place;
                  same = sym (ap (λ r. or_else r (find_all q.later (at + size u))) f) ∙ q.same;
                })

module _ (s : List ℕ) (i at p : ℕ) (k : Scanning (records_in s) i at p) (z : 0 < p) (b : length s < 2 ^ 64) where
  pub scan_counts : (n : ℕ) → Fits w16 n → Fits w64 (p - 1 + n)
  scan_counts n f = omega (arith, scan_count _ _ _ _ k, records_length s)

  pub scan_place_fits : Fits w64 (at + 1)
  scan_place_fits = omega (arith, scan_count _ _ _ _ k, records_length s)

pub ruleset scanning = (scan_starts, scan_tree, scan_known, scan_stops, scan_enters, scan_passes, scan_shortens, scan_shortens_past, scan_counts, scan_place_fits, scan_ends)

-- `find1`, by what `first_splice` tells.
module _ (rs : List Record) (i p : ℕ) (f : FindsSplice rs i (Redex p)) where
  told : {q : ℕ} → FindsSplice rs i (Redex q) → (t : Term) → At rs i t → SpliceAt rs i q t
  told (splice_there q g) = g

  code_there : {f : Fields} {c : Term} → At rs p (unary splice f c) → At rs (p + 1) c
  unfolding kids
  code_there {f} {c} h = first_there rs p (unary splice f c) c [] refl h

  pub splice_tree : HasTree rs i → HasTree rs (p + 1)
  splice_tree h = let s = told f h.tree h.there in record { tree = s.code; there = code_there s.there }

  splice_in : HasTree rs i → p < length rs
  splice_in h = at_first rs p _ (told f h.tree h.there).there

  pub splice_falls : (m : ℕ) → 2 * (get_or rs i no_record).first ≡ m → HasTree rs i → 2 * (get_or rs (p + 1) no_record).first + 1 < m
  unfolding size
  splice_falls m g h = let s = told f h.tree h.there in
      omega (arith, size_read rs i h.tree h.there, size_read rs (p + 1) s.code (code_there s.there), s.inside)

  pub found_splice : (y : Found) → Finds 0 rs (p + 1) y → (r : Found) → r ≡ or_here y (Some p) → Finds 1 rs i r
  unfolding find searched
  found_splice y g r o = record {
    is = λ t h.
        let s = told f t h in
        o ∙ ap (λ z. or_here z (Some p)) (g.is s.code (code_there s.there)) ∙ sym (root_after (find 0 s.code (p + 1)) true p p (λ n. absurd n)) ∙ sym s.same;
  }

pub splice_fits : (s : List ℕ) (i p : ℕ) → FindsSplice (records_in s) i (Redex p) → HasTree (records_in s) i → length s < 2 ^ 64 → Fits w64 (p + 1)
splice_fits s i p f h b = omega (arith, splice_in (records_in s) i p f h, records_length s)

pub ruleset splicing = (splice_tree, splice_falls, splice_fits, found_splice)
