-- `find0`, and the two functions that it goes down and ends by: a law for each thing that their bodies ask. `descending` for search.
use Prim.Native.Nat.{ℕ, ◌+◌, ◌*◌, ◌^◌, ◌≤◌, ◌<◌}
use native.Mathlib.Omega.{arith}
use mathlib.Core.Path.{◌≡◌, refl, sym, ap, subst, ◌∙◌}
use mathlib.Core.Bool.{Bool, true, false}
use mathlib.Core.List.{List}
use lib.Dec.{T}
use Rattle.std.specs.Prelude.{Option, None, Some}
use lib.ListN.{length, get_or}
use mir.Syntax.{w64}
use mir.Val.{Fits}
use Rattle.rules.specs.Kinds.{function, fix, lift, quote, splice, application, match, Kind as MeantKind, leaf₀, unary₁, binary₂, ternary₃}
use Rattle.rules.specs.Terms.{Term, size}
use Rattle.rules.specs.Contractions.{contracts}
use Rattle.rules.specs.Format.{Record, no_record}
use Rattle.rules.specs.Typing.{first_level}
use Rattle.rules.specs.Steps.{stepping}
use Rattle.kinds.specs.declared.names.Kind.{Kind}
use Rattle.kinds.specs.Named.{kind_meant}
use Rattle.records.specs.View.{records_in}
use Rattle.records.proofs.Records.{records_length}
use Rattle.terms.specs.Preorder.{At, HasTree, Skips}
use Rattle.terms.specs.Measuring.{HasKind, KindIs}
use Rattle.terms.proofs.Trees.{at_first, size_read}
use Rattle.terms.proofs.Readings.{tree_kind}
use Rattle.redexes.specs.declared.Found.{Found}
use Rattle.redexes.specs.declared.Found.TheVariants.{Done, Redex}
use Rattle.redexes.specs.Finding.{or_else, or_here, find, Finds}
use Rattle.redexes.specs.Descent.{HasUnwritten, HasRewritten, LastAt, LastStepped, before, last}
use Rattle.redexes.proofs.Ends.{done_ends}
use Rattle.redexes.proofs.Cases.{Case, none, one, two, kind_seen, seen}

-- A kind that is rewritten steps a child, and its first at level 0. One that isn't steps no child, unless it is a quote.
kind_down : (k : MeantKind) → contracts 0 k ≡ true → (first_level k 0 ≡ 0) × (1 ≤ stepping 0 k)
kind_down (leaf₀ k) h = absurd (subst T (sym h) tt)
kind_down (unary₁ function) h = absurd (subst T (sym h) tt)
kind_down (unary₁ fix) h = (refl, omega arith)
kind_down (unary₁ lift) h = (refl, omega arith)
kind_down (unary₁ quote) h = absurd (subst T (sym h) tt)
kind_down (unary₁ splice) h = absurd (subst T (sym h) tt)
kind_down (binary₂ k) h = (refl, omega arith)
kind_down (ternary₃ k) h = (refl, omega arith)

kind_rests : (k : MeantKind) → contracts 0 k ≡ false → (first_level k 0 ≡ 1 → ⊥) → stepping 0 k ≡ 0
kind_rests (leaf₀ k) h n = refl
kind_rests (unary₁ function) h n = refl
kind_rests (unary₁ fix) h n = absurd (subst T h tt)
kind_rests (unary₁ lift) h n = absurd (subst T h tt)
kind_rests (unary₁ quote) h n = absurd (n refl)
kind_rests (unary₁ splice) h n = refl
kind_rests (binary₂ application) h n = absurd (subst T h tt)
kind_rests (ternary₃ (match k)) h n = absurd (subst T h tt)

kind_across : (k : MeantKind) → first_level k 0 ≡ 1 → stepping 0 k ≡ 1
kind_across (leaf₀ k) e = absurd (omega arith)
kind_across (unary₁ function) e = absurd (omega arith)
kind_across (unary₁ fix) e = absurd (omega arith)
kind_across (unary₁ lift) e = absurd (omega arith)
kind_across (unary₁ quote) e = refl
kind_across (unary₁ splice) e = absurd (omega arith)
kind_across (binary₂ k) e = absurd (omega arith)
kind_across (ternary₃ k) e = absurd (omega arith)

-- What was found stays, where no root was passed; and the innermost root counts.
here_none : (x : Found) → or_here x None ≡ x
unfolding or_here
here_none (Done e) = refl
here_none (Redex p) = refl

here_inner : (x : Found) (i : ℕ) (here : Option ℕ) → or_here (or_here x (Some i)) here ≡ or_here x (Some i)
unfolding or_here
here_inner (Done e) i here = refl
here_inner (Redex p) i here = refl

-- A tree inside t stands at j, and has fewer records than t.
record Inside (rs : List Record) (j : ℕ) (t : Term) : Type 0 where
  tree : Term
  there : At rs j tree
  fewer : size tree < size t

inside_has : {rs : List Record} {j : ℕ} {t : Term} → Inside rs j t → HasTree rs j
inside_has n = record { tree = n.tree; there = n.there }

inside_falls : (rs : List Record) (i : ℕ) {j : ℕ} (t : Term) → At rs i t → Inside rs j t → (get_or rs j no_record).first < (get_or rs i no_record).first
inside_falls rs i {j} t h n = omega (arith, size_read rs i t h, size_read rs j n.tree n.there, n.fewer)

-- `last_stepped`.
module _ (rs : List Record) (i : ℕ) (k : Kind) (h : HasRewritten rs i k) where
  cases : (t : Term) → At rs i t → Case rs i t 0 true (stepping 0 (kind_meant k))
  cases t a = rw ((kind_down (kind_meant k) h.rewritten).0, h.rewritten) at (seen rs i k h.kind t a)

  stepped_fits : i < length rs
  stepped_fits = at_first rs i h.tree h.there

  first_stepped : Inside rs (i + 1) h.tree
  first_stepped = go (cases h.tree h.there) (kind_down (kind_meant k) h.rewritten).1
    where
      go : {t : Term} {s : ℕ} → Case rs i t 0 true s → 1 ≤ s → Inside rs (i + 1) t
      go (none r) z = absurd (omega arith)
      go (one u a n r) z = record { tree = u; there = a; fewer = n }
      go (two u v a b n r) z = record { tree = u; there = a; fewer = omega arith }

  pub stepped_child : HasTree rs (i + 1)
  stepped_child = inside_has first_stepped

  pub stepped_falls : (m : ℕ) → 2 * (get_or rs i no_record).first ≡ m → 2 * (get_or rs (i + 1) no_record).first + 1 < m
  stepped_falls m e = omega (arith, inside_falls rs i h.tree h.there first_stepped)

  pub stepped_two : (s : ℕ) → s ≡ stepping 0 (kind_meant k) → s ≡ 2 → (x : Found) → Finds 0 rs (i + 1) x → LastStepped rs i x
  unfolding or_else
  stepped_two s e f (Redex p) g = before p (record { is = λ t a. go (rw (sym e ∙ f) at (cases t a)) })
    where
      go : {t : Term} → Case rs i t 0 true 2 → Redex p ≡ find 0 t i
      go (two u v a b n r) = sym (rw (sym (g.is u a), or_else) at r)
  stepped_two s e f (Done d) g = last d (λ t a. go (rw (sym e ∙ f) at (cases t a)))
    where
      go : {t : Term} → Case rs i t 0 true 2 → LastAt rs i d t
      go (two u v a b n r) =
          let q : d ≡ i + 1 + size u = done_ends 0 u (i + 1) d (sym (g.is u a)) in
          record { child = v; there = rw q b; fewer = omega arith; same = rw q (rw (sym (g.is u a), or_else) at r) }

  pub stepped_one : (s : ℕ) → s ≡ stepping 0 (kind_meant k) → (s ≡ 2 → ⊥) → LastStepped rs i (Done (i + 1))
  stepped_one s e w = last (i + 1) (λ t a. go (cases t a) (kind_down (kind_meant k) h.rewritten).1 (λ q. w (e ∙ q)))
    where
      go : {t : Term} {s : ℕ} → Case rs i t 0 true s → 1 ≤ s → (s ≡ 2 → ⊥) → LastAt rs i (i + 1) t
      go (none r) z o = absurd (omega arith)
      go (one u a n r) z o = record { child = u; there = a; fewer = n; same = r }
      go (two u v a b n r) z o = absurd (o refl)

pub stepped_place_fits : (s : List ℕ) (i : ℕ) (k : Kind) → HasRewritten (records_in s) i k → length s < 2 ^ 64 → Fits w64 (i + 1)
stepped_place_fits s i k h b = omega (arith, stepped_fits (records_in s) i k h, records_length s)

-- `find_at_rest`.
module _ (rs : List Record) (i : ℕ) (k : Kind) (h : HasUnwritten rs i k) where
  pub rest_tree : HasTree rs i
  rest_tree = record { tree = h.tree; there = h.there }

  rest_in : i < length rs
  rest_in = at_first rs i h.tree h.there

  module _ (l : ℕ) (q : l ≡ first_level (kind_meant k) 0) where
    across : l ≡ 1 → (t : Term) → At rs i t → Case rs i t 1 false 1
    across e t b = rw (sym q ∙ e, h.stays, kind_across (kind_meant k) (sym q ∙ e)) at (seen rs i k h.kind t b)

    quoted : l ≡ 1 → Inside rs (i + 1) h.tree
    quoted e = go (across e h.tree h.there)
      where
        go : {t : Term} → Case rs i t 1 false 1 → Inside rs (i + 1) t
        go (one u b n r) = record { tree = u; there = b; fewer = n }

    pub rest_child : l ≡ 1 → HasTree rs (i + 1)
    rest_child e = inside_has (quoted e)

    pub rest_falls : l ≡ 1 → (m : ℕ) → 2 * (get_or rs i no_record).first ≡ m → 2 * (get_or rs (i + 1) no_record).first < m
    rest_falls e m q = omega (arith, inside_falls rs i h.tree h.there (quoted e))

    pub rest_quote : l ≡ 1 → (x : Found) → Finds 1 rs (i + 1) x → Finds 0 rs i x
    rest_quote e x f = record { is = λ t b. go (across e t b) }
      where
        go : {t : Term} → Case rs i t 1 false 1 → x ≡ find 0 t i
        go (one u b n r) = f.is u b ∙ sym (r ∙ here_none (find 1 u (i + 1)))

    pub rest_done : (l ≡ 1 → ⊥) → (d : ℕ) → Skips rs i d → Finds 0 rs i (Done d)
    rest_done n d f = record { is = λ t b. ap Done (f.is t b) ∙ go (rw (kind_rests (kind_meant k) h.stays (λ e. n (q ∙ e))) at (seen rs i k h.kind t b)) }
      where
        go : {t : Term} {m : ℕ} {b : Bool} → Case rs i t m b 0 → Done (i + size t) ≡ find 0 t i
        go (none r) = sym r

pub rest_place_fits : (s : List ℕ) (i : ℕ) (k : Kind) → HasUnwritten (records_in s) i k → length s < 2 ^ 64 → Fits w64 (i + 1)
rest_place_fits s i k h b = omega (arith, rest_in (records_in s) i k h, records_length s)

-- `find0`. The search for the tree t at i has come to a tree at `at`: what is found in t is what is found there, or else the root
-- that was passed last, if any was.
pub record Down (rs : List Record) (i at : ℕ) (passed : Option ℕ) (t : Term) : Type 0 where
  pub child : Term
  pub there : At rs at child
  pub inside : size child ≤ size t
  pub same : find 0 t i ≡ or_here (find 0 child at) passed

pub record Descending (rs : List Record) (i at : ℕ) (passed : Option ℕ) (k : Kind) : Type 0 where
  pub kind : KindIs rs at k
  pub down : (t : Term) → At rs i t → Down rs i at passed t

pub down_starts : (rs : List Record) (i : ℕ) (k : Kind) → KindIs rs i k → Descending rs i i None k
down_starts rs i k a = record { kind = a; down = λ t h. record { child = t; there = h; inside = omega arith; same = sym (here_none (find 0 t i)) } }

module _ (rs : List Record) (i at : ℕ) (passed : Option ℕ) (k : Kind) (d : Descending rs i at passed k) (h : HasTree rs i) where
  abbrev held : Down rs i at passed h.tree
  held = d.down h.tree h.there

  module _ (b : Bool) (e : b ≡ contracts 0 (kind_meant k)) where
    pub down_rewritten : b ≡ true → HasRewritten rs at k
    down_rewritten y = record { tree = held.child; there = held.there; kind = d.kind; rewritten = sym e ∙ y }

    pub down_rests : b ≡ false → HasUnwritten rs at k
    down_rests y = record { tree = held.child; there = held.there; kind = d.kind; stays = sym e ∙ y }

  pub down_falls : (m : ℕ) → 2 * (get_or rs i no_record).first + 1 ≡ m → 2 * (get_or rs at no_record).first < m
  down_falls m e = omega (arith, size_read rs i h.tree h.there, size_read rs at held.child held.there, held.inside)

  pub down_ends : (x : Found) → Finds 0 rs at x → (r : Found) → r ≡ or_here x passed → Finds 0 rs i r
  down_ends x f r e = record { is = λ t a. let o = d.down t a in e ∙ ap (λ y. or_here y passed) (f.is o.child o.there) ∙ sym o.same }

  module _ (x : Found) (l : LastStepped rs at x) where
    pub down_found : (p : ℕ) → x ≡ Redex p → Finds 0 rs i (Redex p)
    unfolding or_here
    down_found p e = record { is = λ t a. let o = d.down t a in sym (o.same ∙ ap (λ y. or_here y passed) (sym ((go (rw e at l)).is o.child o.there))) }
      where
        go : {q : ℕ} → LastStepped rs at (Redex q) → Finds 0 rs at (Redex q)
        go (before q f) = f

    module _ (n : ℕ) (e : x ≡ Done n) where
      stepped : (t : Term) → At rs at t → LastAt rs at n t
      stepped = go (rw e at l)
        where
          go : {m : ℕ} → LastStepped rs at (Done m) → (t : Term) → At rs at t → LastAt rs at m t
          go (last m f) = f

      pub down_tree : HasTree rs n
      down_tree = let s = stepped held.child held.there in record { tree = s.child; there = s.there }

      pub down_known : HasKind rs n
      down_known = tree_kind rs n down_tree

      pub down_shortens : (get_or rs n no_record).first < (get_or rs at no_record).first
      down_shortens = let s = stepped held.child held.there in inside_falls rs at held.child held.there (record { tree = s.child; there = s.there; fewer = s.fewer })

      pub down_goes_on : (k' : Kind) → KindIs rs n k' → Descending rs i n (Some at) k'
      down_goes_on k' a = record {
        kind = a;
        down = λ t b.
            let o = d.down t b in
            let s = stepped o.child o.there in
            record {
              child = s.child;
              there = s.there;
              inside = omega (arith, o.inside, s.fewer);
              same = o.same ∙ ap (λ y. or_here y passed) s.same ∙ here_inner (find 0 s.child n) at passed;
            };
      }

pub ruleset descending =
    (tree_kind, stepped_child, stepped_two, stepped_one, stepped_falls, stepped_place_fits, rest_tree, rest_falls, rest_child, rest_quote, rest_done, rest_place_fits, down_starts, down_rewritten, down_rests, down_falls, down_ends, down_found, down_tree, down_known, down_shortens, down_goes_on)
