-- `load`: the laws of its loop, which writes the trees of a record's children, of its calls of itself, and of the root, which is marked at the
-- end. `loading` for search.
use Prim.Native.Nat.{ℕ, ◌+◌, ◌-◌, ◌^◌, ◌≤◌, ◌<◌}
use native.Mathlib.Omega.{arith}
use mathlib.Core.Logic.{inl}
use mathlib.Core.Path.{◌≡◌, refl, sym, ap, ◌∙◌, subst}
use mathlib.Core.List.{List, [], ◌∷◌}
use lib.ListN.{length, get_or, set, length-set}
use lib.Seq.{get_or-set_same}
use mir.Syntax.{w64}
use mir.Val.{Fits}
use Rattle.rules.specs.Lists.{All}
use Rattle.rules.specs.Terms.{Term, size}
use Rattle.rules.specs.Format.{Record, no_record, record_no}
use Rattle.rules.specs.Links.{next_of, tree_of}
use Rattle.rules.proofs.Laid.{size_some}
use Rattle.records.specs.View.{records_in}
use Rattle.records.proofs.Records.{records_length}
use Rattle.records.specs.Places.{Within}
use Rattle.terms.specs.Preorder.{head, preorder, puts, Stored}
use Rattle.terms.specs.Children.{kids, sizes, preorders}
use Rattle.terms.specs.Measuring.{Low, RootedAt, HasRooted, MarksRoot}
use Rattle.terms.specs.Loads.{WellLinked, CanLoad, CanPutRoot, PutsRoot}
use Rattle.terms.proofs.Puts.{length_puts, puts_append, puts_other, rewritten}
use Rattle.terms.proofs.There.{there_put}
use Rattle.terms.proofs.Trees.{length_preorder, length_preorders, preorder_kids}
use Rattle.terms.proofs.Storing.{stored_end}
use Rattle.terms.proofs.Children.{kids_sizes}
use Rattle.terms.proofs.Low.{low_kids}
use Rattle.terms.proofs.Chains.{Chain, tree_kind, tree_fields, tree_chain}

-- Of the loop that begins at `from` of rs to write the children of record n, before the tree of `child` is written at `at` of rs': the trees of
-- the chain from there on are left, and once they are written all are.
pub record Loading (program : List Record) (n left : ℕ) (rs : List Record) (from : ℕ) (rs' : List Record) (at child : ℕ) : Type 0 where
  pub trees : List Term
  pub chain : Chain program (left - 1) n child trees
  pub written : puts rs' at (preorders trees) ≡ puts rs from (preorders (kids (tree_of left program n)))
  pub ends : at + sizes trees ≡ from + sizes (kids (tree_of left program n))
  pub room : from + sizes (kids (tree_of left program n)) ≤ length rs
  pub small : All (Low 32767) trees
  pub linked : WellLinked program
  pub enough : length program < n + left

-- At the record itself.
module _ (program : List Record) (n left : ℕ) (rs : List Record) (dst : ℕ) (h : CanLoad program n left rs dst) where
  pub load_root : CanPutRoot program n rs dst
  load_root = record { within = h.within; room = omega (arith, h.room, size_some (tree_of left program n)) }

  pub load_left : 1 ≤ left
  load_left = omega (arith, h.within.most, h.enough)

  pub load_left_falls : (m : ℕ) → left ≡ m → left - 1 < m
  load_left_falls m e = omega (arith, load_left)

  -- Its root is written: the children are left.
  module _ (rs' : List Record) (r : ℕ) (p : PutsRoot program n rs dst rs' r) where
    pub load_starts : Loading program n left rs' (dst + 1) rs' (dst + 1) r
    load_starts =
        let t = tree_of left program n in
        record {
          trees = kids t;
          chain = rw p.first (tree_chain program left n h.linked load_left h.within.some h.within.most);
          written = refl;
          ends = refl;
          room = omega (arith, h.room, kids_sizes t, ap length p.written ∙ length-set rs dst (record_no program n));
          small = low_kids 32767 t h.small;
          linked = h.linked;
          enough = h.enough;
        }

    -- They are written: the root is marked.
    module _ (rs'' : List Record) (at child : ℕ) (l : Loading program n left rs' (dst + 1) rs'' at child) (z : child ≤ 0) where
      abbrev t : Term
      t = tree_of left program n

      all_written : rs'' ≡ puts (set rs dst (record_no program n)) (dst + 1) (preorders (kids t))
      unfolding Chain puts preorders
      all_written = go l.trees l.chain l.written
        where
          go : (ts : List Term) → Chain program (left - 1) n child ts → puts rs'' at (preorders ts) ≡ puts rs' (dst + 1) (preorders (kids t))
              → rs'' ≡ puts (set rs dst (record_no program n)) (dst + 1) (preorders (kids t))
          go [] c w = w ∙ ap (λ x. puts x (dst + 1) (preorders (kids t))) p.written
          go (u ∷ ts) (c, _, _, _) w = absurd (omega arith)

      root_there : RootedAt rs'' dst t
      root_there =
          let x = record_no program n in
          let c = length-set rs dst x in
          let d = length_puts (set rs dst x) (dst + 1) (preorders (kids t)) in
          let m = length_preorders (kids t) in
          let s = kids_sizes t in
          let e : get_or rs'' dst no_record ≡ x = ap (λ y. get_or y dst no_record) all_written ∙ puts_other (set rs dst x) (dst + 1) (preorders (kids t)) dst (inl (omega arith))
          ∙ get_or-set_same rs dst x no_record (omega (arith, load_root.room)) in
          record {
            within = omega (arith, ap length all_written, load_root.room);
            kind = ap (λ y. y.kind) e ∙ tree_kind program left n h.linked load_left h.within.some h.within.most;
            fields = ap (λ y. y.fields) e ∙ tree_fields program left n h.linked load_left h.within.some h.within.most;
            children = rw all_written (there_put (set rs dst x) (dst + 1) (preorders (kids t)) (omega (arith, h.room)));
            few = omega (arith, h.small);
            low = omega (arith, h.small);
          }

      pub load_marks : HasRooted rs'' dst
      load_marks = record { tree = t; there = root_there }

      pub load_ends : (rs''' : List Record) (r' : ℕ) → MarksRoot rs'' rs''' dst r' → Stored rs rs''' dst (preorder t) r'
      load_ends rs''' r' m =
          let (w, e) = m.does t root_there in
          record {
            records = w ∙ ap (λ x. set x dst (head t)) all_written ∙ rewritten rs dst (record_no program n) (head t) (preorders (kids t)) ∙ ap (puts rs dst) (sym (preorder_kids t));
            end = omega (arith, length_preorder t);
          }

pub load_place_fits : (program : List Record) (n left : ℕ) (s : List ℕ) (dst : ℕ) → CanLoad program n left (records_in s) dst → length s < 2 ^ 64 → Fits w64 (dst + 1)
load_place_fits program n left s dst h b = omega (arith, (load_root program n left (records_in s) dst h).room, records_length s)

-- A turn of the loop: the trees that are left begin with that of `child`.
module _ (program : List Record) (n left : ℕ) (rs : List Record) (from : ℕ) (rs' : List Record) (at child : ℕ) (l : Loading program n left rs from rs' at child) (z : 0 < child) where
  same_length : length rs' ≡ length rs
  same_length = sym (length_puts rs' at (preorders l.trees)) ∙ ap length l.written ∙ length_puts rs from (preorders (kids (tree_of left program n)))

  pub load_child : CanLoad program child (left - 1) rs' at
  unfolding Chain sizes
  load_child = go l.trees l.chain l.ends l.small
    where
      go : (ts : List Term) → Chain program (left - 1) n child ts → at + sizes ts ≡ from + sizes (kids (tree_of left program n)) → All (Low 32767) ts
          → CanLoad program child (left - 1) rs' at
      go [] c e m = absurd (omega arith)
      go (t ∷ ts) (a, b, q, _) e (m, _) = record {
        linked = l.linked;
        within = record { some = z; most = b };
        enough = omega (arith, l.enough);
        room = omega (arith, l.room, ap size q, same_length);
        small = subst (Low 32767) q m;
      }

  pub load_reads : Within program child
  load_reads = load_child.within

  module _ (rs'' : List Record) (at' : ℕ) (d : Stored rs' rs'' at (preorder (tree_of (left - 1) program child)) at') where
    pub load_falls : length rs - at' < length rs - at
    load_falls = omega (arith, stored_end (tree_of (left - 1) program child) d, load_child.room, same_length, size_some (tree_of (left - 1) program child))

    pub load_goes_on : (next : ℕ) → next ≡ (record_no program child).next → Loading program n left rs from rs'' at' next
    unfolding Chain sizes preorders
    load_goes_on next e = go l.trees l.chain l.written l.ends l.small
      where
        go : (ts : List Term) → Chain program (left - 1) n child ts → puts rs' at (preorders ts) ≡ puts rs from (preorders (kids (tree_of left program n)))
            → at + sizes ts ≡ from + sizes (kids (tree_of left program n)) → All (Low 32767) ts → Loading program n left rs from rs'' at' next
        go [] c w o m = absurd (omega arith)
        go (t ∷ ts) (a, b, q, c) w o (_, m) =
            let i : next ≡ next_of program child = e ∙ l.linked.links.next child z b in
            record {
              trees = ts;
              chain = rw i c;
              written = (rw (d.records, d.end, ← q)) ∙ sym (puts_append rs' at (preorder t) (preorders ts)) ∙ w;
              ends = omega (arith, stored_end (tree_of (left - 1) program child) d, ap size q);
              room = l.room;
              small = m;
              linked = l.linked;
              enough = l.enough;
            }

pub ruleset loading = (load_root, load_left_falls, load_starts, load_marks, load_ends, load_place_fits, load_child, load_falls, load_goes_on)
