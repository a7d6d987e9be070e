-- The laws of `write_tree`: the root, and a loop that writes its children one after another. Assumes nothing.
use Prim.Native.Nat.{ℕ, ◌+◌, ◌-◌, ◌*◌, ◌^◌, ◌≤◌, ◌<◌}
use native.Mathlib.Omega.{arith}
use mathlib.Core.Path.{◌≡◌, refl, ap, ap₂, ◌∙◌}
use mathlib.Core.List.{List, [], ◌∷◌}
use lib.ListN.{length}
use mir.Syntax.{w16, w64}
use mir.Val.{Fits}
use Rattle.rules.specs.Terms.{Term, size}
use Rattle.rules.specs.Format.{Record}
use Rattle.rules.specs.Links.{laid}
use Rattle.rules.proofs.Laid.{size_some, length_laid}
use Rattle.records.specs.View.{records_in}
use Rattle.records.proofs.Records.{records_room}
use Rattle.terms.specs.Preorder.{There, HasTree, Skips}
use Rattle.terms.specs.Children.{kids, sizes, preorders}
use Rattle.terms.proofs.Trees.{at_first, kids_there, first_tree, later_trees}
use Rattle.terms.proofs.Children.{kids_sizes}
use Rattle.writing.specs.declared.Writer.{Writer}
use Rattle.writing.specs.Slots.{Filled, link_to}
use Rattle.writing.specs.State.{CanPutRecord, PutsRecord}
use Rattle.writing.specs.Tree.{Writable, CanWrite, WroteTree, Writes}
use Rattle.writing.proofs.Slots.{filled_length, filled_none, filled_one, filled_then}
use Rattle.writing.proofs.Children.{laid_all, laid_children, root_laid, headed_root, children_of_root}

-- The trees ts, so many, stand at `at`, and s has room for their records from the state st on.
record Row (ws : List Record) (at : ℕ) (s : List ℕ) (st : Writer) (many : ℕ) (ts : List Term) : Type 0 where
  count : length ts ≡ many
  there : There ws at (preorders ts)
  counted : 1 ≤ st.number
  few : st.number + sizes ts ≤ 4096
  room : st.number - 1 + sizes ts ≤ length (records_in s)
  short : st.length + 16 * sizes ts < 2 ^ 64

-- Of the trees ts, which are written to s from the state st on, us are left: once they are written to s' from the state st' on, ts are.
record Left (ws : List Record) (s : List ℕ) (st : Writer) (ts : List Term) (s' : List ℕ) (st' : Writer) (at left : ℕ) (us : List Term) : Type 0 where
  row : Row ws at s' st' left us
  number : st'.number + sizes us ≡ st.number + sizes ts
  long : st'.length + 16 * sizes us ≡ st.length + 16 * sizes ts
  whole : (s'' : List ℕ) → Filled s' (st'.number - 1) (laid_all us st'.number) s'' → Filled s (st.number - 1) (laid_all ts st.number) s''

record Rest (ws : List Record) (s : List ℕ) (st : Writer) (ts : List Term) (s' : List ℕ) (st' : Writer) (at left : ℕ) : Type 0 where
  trees : List Term
  are : Left ws s st ts s' st' at left trees

-- The loop over the trees from `from` on: `left` are left from `at` on.
pub record Writing (ws : List Record) (from : ℕ) (s : List ℕ) (st : Writer) (many : ℕ) (s' : List ℕ) (st' : Writer) (left at : ℕ) : Type 0 where
  begun : from ≤ at
  all : (ts : List Term) → Row ws from s st many ts → Rest ws s st ts s' st' at left
  trees : List Term
  row : Row ws from s st many trees

-- The root.
module _ (ws : List Record) (i : ℕ) (s : List ℕ) (st : Writer) where
  root_read : CanWrite ws i s st → i < length ws
  root_read h = at_first ws i h.tree h.can.there

  pub can_put : CanWrite ws i s st → CanPutRecord ws i s st
  can_put h =
      let z = size_some h.tree in
      record {
        head = record { read = root_read h; counted = h.can.counted; slot = omega (arith, h.can.counted, h.can.room); few = omega (arith, h.can.few) };
        short = omega (arith, h.can.short);
      }

  module _ (next : ℕ) (s₁ : List ℕ) (st₁ : Writer) (n : ℕ) (p : PutsRecord ws i s st next s₁ st₁ n) where
    root_filled : (t : Term) → Writable ws i s st t → Filled s (st.number - 1) (root_laid st.number next t ∷ []) s₁
    root_filled t h = filled_one s (st.number - 1) _ s₁ (rw (headed_root ws i t h.there st.number next) at p.head.put)

    -- Its children come next.
    root_row : (t : Term) → Writable ws i s st t → Row ws (i + 1) s₁ st₁ n (kids t)
    root_row t h =
        let z = kids_sizes t in
        rw p.moved (record {
          count = omega (arith, p.head.count, children_of_root ws i t h.there);
          there = kids_there ws i t h.there;
          counted = omega arith;
          few = omega (arith, h.few);
          room = omega (arith, h.room, h.counted, filled_length s (st.number - 1) _ s₁ (root_filled t h));
          short = omega (arith, h.short);
        })

    pub children_left : (left : ℕ) → left ≡ n → CanWrite ws i s st → Writing ws (i + 1) s₁ st₁ n s₁ st₁ left (i + 1)
    children_left left e h = rw e (record {
      begun = omega arith;
      all = λ ts r. record { trees = ts; are = record { row = r; number = refl; long = refl; whole = λ s'' q. q } };
      trees = kids h.tree;
      row = root_row h.tree h.can;
    })

    -- None is left: the tree is written.
    pub all_written : (s' : List ℕ) (st' : Writer) (left at : ℕ) → Writing ws (i + 1) s₁ st₁ n s' st' left at → left ≤ 0 → Writes ws i s s' st next st'
    unfolding sizes laid_all
    all_written s' st' left at w z = record { does = λ t h. let r = w.all (kids t) (root_row t h) in go t h r.trees r.are }
      where
        go : (t : Term) → Writable ws i s st t → (us : List Term) → Left ws s₁ st₁ (kids t) s' st' at left us → WroteTree s s' st next t st'
        go t h [] l =
            let k : st.number + 1 - 1 ≡ st.number - 1 + 1 = omega (arith, h.counted) in
            let rest = rw (p.moved, k) at (l.whole s' (filled_none s' (st'.number - 1))) in
            record {
              filled = rw (laid_children st.number next t) (filled_then s (st.number - 1) (root_laid st.number next t ∷ []) _ s₁ s' (root_filled t h) rest);
              number = omega (arith, l.number, kids_sizes t, ap (λ x. x.number) p.moved);
              long = omega (arith, l.long, kids_sizes t, ap (λ x. x.length) p.moved);
            }
        go t h (u ∷ us) l = absurd (omega (arith, l.row.count))

-- The first of a row can be written, and once it is written with the link to the next, the others are left.
record Turn (ws : List Record) (s : List ℕ) (st : Writer) (ts : List Term) (s' : List ℕ) (st' : Writer) (at left : ℕ) : Type 0 where
  child : Term
  can : Writable ws at s' st' child
  goes : (s'' : List ℕ) (r : Writer) → WroteTree s' s'' st' (link_to (left - 1) (st'.number + size child)) child r → Rest ws s st ts s'' r (at + size child) (left - 1)

module _ (ws : List Record) (from : ℕ) (s : List ℕ) (st : Writer) (many : ℕ) (s' : List ℕ) (st' : Writer) (left at : ℕ) (p : Writing ws from s st many s' st' left at) (z : 0 < left) where
  turn : (ts : List Term) → Row ws from s st many ts → Turn ws s st ts s' st' at left
  unfolding sizes laid_all
  turn ts h = let r = p.all ts h in go r.trees r.are
    where
      go : (us : List Term) → Left ws s st ts s' st' at left us → Turn ws s st ts s' st' at left
      go [] l = absurd (omega (arith, l.row.count))
      go (u ∷ us) l =
          let r = l.row in
          let e : length us ≡ left - 1 = omega (arith, r.count) in
          let next = link_to (left - 1) (st'.number + size u) in
          let m = length_laid st'.number next u in
          record {
            child = u;
            can = record {
              there = first_tree ws at u us r.there;
              counted = r.counted;
              few = omega (arith, r.few);
              room = omega (arith, r.room);
              short = omega (arith, r.short);
            };
            goes = λ s'' st'' w.
                let k : st''.number - 1 ≡ st'.number - 1 + length (laid st'.number next u) = omega (arith, w.number, r.counted) in
                record {
                  trees = us;
                  are = record {
                    row = record {
                      count = e;
                      there = later_trees ws at u us r.there;
                      counted = omega (arith, w.number, r.counted);
                      few = omega (arith, w.number, r.few);
                      room = omega (arith, w.number, r.counted, r.room, filled_length s' (st'.number - 1) _ s'' w.filled);
                      short = omega (arith, w.long, r.short);
                    };
                    number = omega (arith, l.number, w.number);
                    long = omega (arith, l.long, w.long);
                    whole = λ s''' q. l.whole s''' (rw e (filled_then s' (st'.number - 1) _ _ s'' s''' w.filled (rw (k, w.number) at q)));
                  };
                };
          }

  next_turn : Turn ws s st p.trees s' st' at left
  next_turn = turn p.trees p.row

  pub child_tree : HasTree ws at
  child_tree = record { tree = next_turn.child; there = next_turn.can.there }

  pub child_can : CanWrite ws at s' st'
  child_can = record { tree = next_turn.child; can = next_turn.can }

  module _ (end : ℕ) (sk : Skips ws at end) where
    pub child_down : at ≤ end
    child_down = omega (arith, sk.is next_turn.child next_turn.can.there)

    pub child_fits : Fits w16 (end - at)
    child_fits = omega (arith, sk.is next_turn.child next_turn.can.there, next_turn.can.few)

    pub child_numbered : st'.number + (end - at) < 65536
    child_numbered = omega (arith, sk.is next_turn.child next_turn.can.there, next_turn.can.few)

    pub child_written : (rest after link : ℕ) → rest ≡ left - 1 → after ≡ left - 1 → link ≡ link_to after (st'.number + (end - at)) → (s'' : List ℕ) (r : Writer) → Writes ws at s' s'' st' link r
        → Writing ws from s st many s'' r rest end
    child_written rest after link less same e s'' r w = record {
      begun = omega (arith, p.begun, child_down);
      all = λ ts h.
          let v = turn ts h in
          let y = sk.is v.child v.can.there in
          let x : st'.number + (end - at) ≡ st'.number + size v.child = omega arith in
          rw (less, y) (v.goes s'' r (rw (e ∙ ap₂ link_to same x) at (w.does v.child v.can)));
      trees = p.trees;
      row = p.row;
    }

-- Places, and what falls: the bytes from the tree on that it is read from.
module _ (w : List ℕ) (i : ℕ) (s : List ℕ) (st : Writer) (h : CanWrite (records_in w) i s st) where
  pub place_fits : length w < 2 ^ 64 → Fits w64 (i + 1)
  place_fits b = omega (arith, records_room w i (root_read (records_in w) i s st h))

  pub child_falls : (m : ℕ) → length w - i ≡ m → (s₁ : List ℕ) (st₁ : Writer) (many : ℕ) (s' : List ℕ) (st' : Writer) (left at : ℕ) → Writing (records_in w) (i + 1) s₁ st₁ many s' st' left at
      → length w - at < m
  child_falls m e s₁ st₁ many s' st' left at p = omega (arith, records_room w i (root_read (records_in w) i s st h), p.begun)
