-- `size_after`: a tree is counted by its root and its children, and at once where no index of it reaches the removed binders. `counting` for search.
use Prim.Native.Nat.{ℕ, ◌+◌, ◌-◌, ◌*◌, ◌/◌, ◌^◌, ◌≤◌, ◌<◌}
use native.Mathlib.Omega.{arith}
use native.Mathlib.Nat.{one-mul}
use mathlib.Core.List.{List}
use mathlib.Core.Bool.{Bool, true, false}
use mathlib.Core.Path.{◌≡◌, sym, ap, ◌∙◌}
use lib.Dec.{eqb}
use lib.ListN.{length, get_or}
use borrow.Author.Tests.{lt-ltb}
use mir.Syntax.{w64}
use mir.Val.{Fits}
use Rattle.rules.specs.Lists.{pick}
use Rattle.rules.specs.Kinds.{variable, Kind, child_count, kind_of}
use Rattle.rules.specs.Terms.{Fields, Term, leaf, root_kind, size}
use Rattle.rules.specs.Indices.{names_removed, summed}
use Rattle.rules.specs.Format.{Record, no_record}
use Rattle.kinds.specs.Named.{IsKind}
use Rattle.records.specs.View.{records_in}
use Rattle.records.proofs.Records.{records_length}
use Rattle.terms.specs.Preorder.{head, At, HasTree, Skips}
use Rattle.terms.specs.Measuring.{binders_over}
use Rattle.terms.proofs.Trees.{at_first, kids_there}
use Rattle.terms.proofs.Joined.{binds_few}
use Rattle.copies.specs.Copying.{is_named}
use Rattle.sizes.specs.Counting.{weight, size_after, CanCount, CountsSize}
use Rattle.copies.proofs.Parts.{root_known}
use Rattle.copies.proofs.Rows.{child, Row, row_starts, Turn, row_turn}
use Rattle.substitution.proofs.Sums.{low_summed, Adding, adding_starts, adding_next, adding_most, adding_ends}
use Rattle.sizes.proofs.Weights.{summed_most, weight_most}
use Rattle.copies.proofs.Copies.{Spot, named, kept, read_root, read_bound, read_kind, read_spot}

-- The kind of its root is known.
pub count_known : (rs : List Record) (src d first second : ℕ) (r : Record) → r ≡ get_or rs src no_record → CanCount rs src d first second → IsKind r.kind
count_known rs src d first second r e h = root_known rs src r e h.tree h.there

-- A tree whose root gives way to nothing.
pub record StaysAt (m : ℕ) (rs : List Record) (src d : ℕ) (k : Kind) (t : Term) : Type 0 where
  pub there : At rs src t
  pub kind : k ≡ root_kind t
  pub unnamed : (f : Fields) → t ≡ leaf variable f → names_removed m d f.a ≡ false

-- The loop over the children: child j, of n, is the next to be counted, at `at`, and y is counted before it.
pub record Walking (m first second : ℕ) (rs : List Record) (src d : ℕ) (k : Kind) (n y at j : ℕ) : Type 0 where
  count : n ≡ child_count k
  all : (t : Term) → StaysAt m rs src d k t → Row rs src at j t
  adding : Adding (StaysAt m rs src d k) (weight m first second) 1 d j y
  tree : Term
  of : StaysAt m rs src d k tree
  deep : d + 2 * size tree < 65536
  first_small : first ≤ 65535
  second_small : second ≤ 65535

module _ (m first second : ℕ) where
  -- What is counted fits.
  pub after_most : (d : ℕ) (t : Term) → first ≤ 65535 → second ≤ 65535 → summed (weight m first second) 1 d t ≤ 65535 * size t
  after_most d t p q = summed_most (weight m first second) 1 65535 (omega arith) (weight_most m first second 65535 (omega arith) p q) d t

  module _ (rs : List Record) (src d : ℕ) (r : Record) (e : r ≡ get_or rs src no_record) where
    pub counts_block : r.next / 2 ≤ d → (n : ℕ) → n ≡ r.first → CountsSize rs src d m first second n
    unfolding size_after
    counts_block l n q = record {
      is = λ t h. q ∙ ap (λ q. q.first) (read_root rs src r e t h) ∙ sym (low_summed (weight m first second) 1 below d t (omega (arith, read_bound rs src r e t h)) ∙ one-mul (size t));
    }
      where
        below : (d i : ℕ) → i < d → weight m first second d i ≡ 1
        below d i l = rw (lt-ltb i d l)

    module _ (l : d < r.next / 2) (kd : Kind) (u : kd ≡ kind_of r.kind) (k : ℕ) (o : k ≡ child_count kd) (x : Bool) (i : x ≡ is_named k m d r.fields.a) where
      pub counts_use : x ≡ true → (n : ℕ) → n ≡ pick (eqb r.fields.a d) first second → CountsSize rs src d m first second n
      unfolding size_after summed
      counts_use y n w = record { is = λ t h. told t h (rw (← i, y) at (read_spot rs src r e t h m d l k (o ∙ ap child_count u))) }
        where
          told : (t : Term) → At rs src t → Spot m d t true → n ≡ summed (weight m first second) 1 d t
          told t h (named f p q) =
              let a : r.fields.a ≡ f.a = ap (λ z. z.fields.a) (read_root rs src r e t h ∙ ap head p) in
              w ∙ ap (λ z. pick (eqb z d) first second) a ∙ sym (ap (summed (weight m first second) 1 d) p ∙ ap (λ b. pick b (pick (eqb f.a d) first second) 1) q)

      module _ (y : x ≡ false) where
        pub stays_at : (t : Term) → At rs src t → StaysAt m rs src d kd t
        stays_at t h = record { there = h; kind = u ∙ read_kind rs src r e t h; unnamed = told (rw (← i, y) at (read_spot rs src r e t h m d l k (o ∙ ap child_count u))) }
          where
            told : Spot m d t false → (f : Fields) → t ≡ leaf variable f → names_removed m d f.a ≡ false
            told (kept a) = a

        pub walk_starts : CanCount rs src d first second → Walking m first second rs src d kd k 1 (src + 1) 0
        walk_starts h = record {
          count = o;
          all = λ t q. row_starts rs src t (kids_there rs src t q.there);
          adding = adding_starts _ (weight m first second) 1 d (λ t q f e. ap (λ b. pick b (pick (eqb f.a d) first second) 1) (q.unnamed f e));
          tree = h.tree;
          of = stays_at h.tree h.there;
          deep = h.deep;
          first_small = h.first_small;
          second_small = h.second_small;
        }

        pub walk_ends : (n at j : ℕ) → Walking m first second rs src d kd k n at j → k ≤ j → CountsSize rs src d m first second n
        unfolding size_after
        walk_ends n at j p q = record {
          is = λ t h. adding_ends (StaysAt m rs src d kd) (weight m first second) 1 d j n p.adding t (stays_at t h) (omega (arith, o, ap child_count (stays_at t h).kind));
        }

-- A turn of the loop.
module _ (m first second : ℕ) (rs : List Record) (src d : ℕ) (k : Kind) (n y at j : ℕ) (p : Walking m first second rs src d k n y at j) (l : j < n) where
  next_one : (t : Term) → StaysAt m rs src d k t → j < child_count (root_kind t)
  next_one t q = omega (arith, p.count, ap child_count q.kind)

  next_turn : (t : Term) (q : StaysAt m rs src d k t) → Turn rs src at j t
  next_turn t q = row_turn rs src at j t (p.all t q) (next_one t q)

  pub walk_tree : HasTree rs at
  walk_tree = record { tree = child p.tree j; there = (next_turn p.tree p.of).there }

  module _ (u : ℕ) (b : u ≡ binders_over k j) where
    pub walk_can : CanCount rs at (d + u) first second
    walk_can =
        let q = next_turn p.tree p.of in
        record {
          tree = child p.tree j;
          there = q.there;
          deep = omega (arith, p.deep, b, binds_few k j, q.next.from, (p.all p.tree p.of).begun);
          first_small = p.first_small;
          second_small = p.second_small;
        }

    module _ (z : ℕ) (c : CountsSize rs at (d + u) m first second z) where
      counted : (t : Term) → StaysAt m rs src d k t → (j < child_count (root_kind t)) × (z ≡ summed (weight m first second) 1 (d + binders_over (root_kind t) j) (child t j))
      unfolding size_after
      counted t q = (next_one t q, rw (b ∙ ap (λ x. binders_over x j) q.kind) at (c.is (child t j) (next_turn t q).there))

      pub sum_fits : Fits w64 (y + z)
      sum_fits = omega (
        arith,
        adding_most (StaysAt m rs src d k) (weight m first second) 1 d j y p.adding z counted p.tree p.of,
        after_most m first second d p.tree p.first_small p.second_small,
        p.deep,
      )

-- The child is counted, and the one after it is next.
pub walk_next : (m first second : ℕ) (rs : List Record) (at d u z : ℕ) → CountsSize rs at (d + u) m first second z → (src : ℕ) (k : Kind) (n y j : ℕ) → Walking m first second rs src d k n y at j → (end : ℕ)
    → Skips rs at end → j < n → u ≡ binders_over k j → (x : ℕ) → x ≡ y + z → Walking m first second rs src d k n x end (j + 1)
walk_next m first second rs at d u z c src k n y j p end sk l b x e = rw e (record {
  count = p.count;
  all = λ t q. let v = next_turn m first second rs src d k n y at j p l t q in rw (sk.is (child t j) v.there) v.next;
  adding = adding_next _ (weight m first second) 1 d j y p.adding z (counted m first second rs src d k n y at j p l u b z c);
  tree = p.tree;
  of = p.of;
  deep = p.deep;
  first_small = p.first_small;
  second_small = p.second_small;
})

pub count_in : (rs : List Record) (src d first second : ℕ) → CanCount rs src d first second → src < length rs
count_in rs src d first second h = at_first rs src h.tree h.there

pub count_from_fits : (s : List ℕ) (src d first second : ℕ) → CanCount (records_in s) src d first second → length s < 2 ^ 64 → Fits w64 (src + 1)
count_from_fits s src d first second h b = omega (arith, count_in (records_in s) src d first second h, records_length s)

pub walk_falls : (m first second : ℕ) (s : List ℕ) (src d : ℕ) (k : Kind) (n y at j : ℕ) → Walking m first second (records_in s) src d k n y at j → j < n → (q : ℕ) → length (records_in s) - src ≡ q
    → length (records_in s) - at < q
walk_falls m first second s src d k n y at j p l q g =
    omega (arith, (p.all p.tree p.of).begun, at_first (records_in s) at _ (walk_tree m first second (records_in s) src d k n y at j p l).there)

pub ruleset counting = (counts_block, count_in, count_from_fits, walk_tree, walk_next, walk_can, sum_fits, walk_falls)
