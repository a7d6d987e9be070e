-- `copy_up`, `put_ahead`, `dropped`: the laws of filling a hole by a tree that is moved up, and of the hole of a match. `moving_up`, `filling` and
-- `dropping` for search.
use Prim.Native.Nat.{ℕ, ◌+◌, ◌-◌, ◌^◌, ◌≤◌, ◌<◌}
use native.Mathlib.Omega.{arith}
use native.Mathlib.Nat.{add-zero}
use mathlib.Core.List.{List, [], ◌∷◌}
use mathlib.Core.Logic.{inl, inr}
use mathlib.Core.Path.{◌≡◌, refl, sym, ap, ◌∙◌}
use lib.ListN.{length, get_or, set}
use mir.Syntax.{w64}
use mir.Val.{Fits}
use Rattle.rules.specs.Kinds.{Ternary}
use Rattle.rules.specs.Terms.{Fields, Term, size}
use Rattle.rules.specs.Format.{Record, no_record}
use Rattle.records.specs.View.{records_in, RecordPut}
use Rattle.records.proofs.Records.{records_length}
use Rattle.terms.specs.Preorder.{puts, part, preorder}
use Rattle.terms.specs.Moves.{Moved}
use Rattle.terms.specs.Children.{sizes}
use Rattle.terms.proofs.Puts.{length_puts, set_puts, puts_other, part_cons, puts_part}
use Rattle.contexts.specs.Contexts.{Frame, first₃, children_after, Context}
use Rattle.contexts.specs.Sides.{right_size}
use Rattle.zipper.specs.declared.focus.Focus.{Focus}
use Rattle.zipper.specs.declared.focus.Ahead.{Ahead}
use Rattle.zipper.specs.Layout.{left_records, right_records}
use Rattle.zipper.specs.Focusing.{LinkIs, HasTrees, SkipsAll, LaidAt, AheadAt}
use Rattle.zipper.specs.Moving.{CanMoveUp, HoleAt, Fills, CanPutAhead, PutsAhead, HasMatch, Drops}
use Rattle.terms.proofs.There.{there_put, there_stays}
use Rattle.terms.proofs.Trees.{length_preorder}
use Rattle.zipper.proofs.Sides.{length_left}
use Rattle.zipper.proofs.Places.{at_top, outer, frame_read, next_ones, later_ones}

-- `copy_up`: the records from the i-th on are copied.
pub record MovingUp (rs₀ : List Record) (src dst n : ℕ) (rs : List Record) (i : ℕ) : Type 0 where
  is : rs ≡ puts rs₀ (dst + i) (part rs₀ (src + i) (n - i))
  low : i ≤ n
  can : CanMoveUp rs₀ src dst n

pub up_stays : (rs : List Record) (src dst n : ℕ) → CanMoveUp rs src dst n → src ≡ dst → Moved rs rs src dst n
up_stays rs src dst n h e = record { is = rw e (sym (puts_part rs dst n h.to)) }

pub up_starts : (rs : List Record) (src dst n : ℕ) → CanMoveUp rs src dst n → MovingUp rs src dst n rs n
unfolding puts
up_starts rs src dst n h = let z : n - n ≡ 0 = omega arith in record { is = rw z refl; low = omega arith; can = h }

module _ (rs₀ : List Record) (src dst n : ℕ) (rs : List Record) (i : ℕ) (h : MovingUp rs₀ src dst n rs i) where
  same_long : length rs ≡ length rs₀
  same_long = ap length h.is ∙ length_puts rs₀ (dst + i) (part rs₀ (src + i) (n - i))

  pub up_ends : i ≤ 0 → Moved rs₀ rs src dst n
  up_ends l = let z : i ≡ 0 = omega arith in let m : n - 0 ≡ n = omega arith in record { is = rw (z, m, add-zero dst, add-zero src) at h.is }

  module _ (l : 0 < i) where
    pub up_from : src + (i - 1) < length rs
    up_from = omega (arith, same_long, h.low, h.can.up, h.can.to)

    pub up_to : dst + (i - 1) < length rs
    up_to = omega (arith, same_long, h.low, h.can.to)

    pub up_next : (s s' : List ℕ) (x : Record) → rs ≡ records_in s → x ≡ get_or rs (src + (i - 1)) no_record → RecordPut s (dst + (i - 1)) x s' → MovingUp rs₀ src dst n (records_in s') (i - 1)
    unfolding puts
    up_next s s' x q e p =
        let j = i - 1 in
        let xs = part rs₀ (src + i) (n - i) in
        let a : dst + i ≡ dst + j + 1 = omega arith in
        let b : src + i ≡ src + j + 1 = omega arith in
        let c : n - j ≡ 1 + (n - i) = omega (arith, h.low) in
        let y : x ≡ get_or rs₀ (src + j) no_record = e ∙ ap (λ l. get_or l (src + j) no_record) h.is ∙ puts_other rs₀ (dst + i) xs (src + j) (inl (omega (arith, h.can.up))) in
        let z : part rs₀ (src + j) (n - j) ≡ x ∷ xs = ap (part rs₀ (src + j)) c ∙ part_cons rs₀ (src + j) (n - i) (omega (arith, h.low, h.can.up, h.can.to)) ∙ (rw (← b, ← y) refl) in
        record {
          is = p.things ∙ ap (λ l. set l (dst + j) x) (sym q ∙ h.is) ∙ set_puts rs₀ (dst + j) x (dst + i) xs (omega arith) ∙ ap (λ k. puts (set rs₀ (dst + j) x) k xs) a ∙ ap (puts rs₀ (dst + j)) (sym z);
          low = omega (arith, h.low);
          can = h.can;
        }

module _ (s : List ℕ) (src dst n : ℕ) (rs : List Record) (i : ℕ) (h : MovingUp (records_in s) src dst n rs i) (l : 0 < i) (b : length s < 2 ^ 64) where
  pub up_from_fits : Fits w64 (src + (i - 1))
  up_from_fits = omega (arith, h.low, h.can.up, h.can.to, records_length s)

  pub up_to_fits : Fits w64 (dst + (i - 1))
  up_to_fits = omega (arith, h.low, h.can.to, records_length s)

pub ruleset moving_up = (up_stays, up_starts, up_ends, up_from, up_to, up_next, up_from_fits, up_to_fits)

-- `put_ahead`
module _ (rs : List Record) (h : Ahead) (src n : ℕ) where
  pub fill_down : CanPutAhead rs h src n → n ≤ h.r
  fill_down c = omega (arith, c.fills.room)

  pub fill_can : CanPutAhead rs h src n → CanMoveUp rs src (h.r - n) n
  fill_can c = let f = c.fills in record { up = omega (arith, f.to); to = omega (arith, f.room, f.hole.whole, f.hole.room) }

  module _ (rs' : List Record) (mv : Moved rs rs' src (h.r - n) n) where
    abbrev filled : Ahead
    filled = record { l = h.l; r = h.r - n; top = h.top; level = h.level }

    fills_hole : (C : Context) (u : Term) → Fills rs h src n C u → AheadAt rs' filled C u
    fills_hole C u f =
        let m = length_preorder u in
        let c = f.count in
        let xs = preorder u in
        let d = h.r - n in
        let p : part rs src n ≡ xs = ap (part rs src) (c ∙ sym m) ∙ f.there.there.is in
        let i : rs' ≡ puts rs d xs = mv.is ∙ ap (puts rs d) p in
        let e : d + size u ≡ h.r = omega (arith, f.room) in
        rw (i, e) (record {
          around = record {
            left = there_stays rs d xs 0 (left_records C) (inl (omega (arith, length_left C, f.hole.start, f.room))) f.hole.left;
            right = there_stays rs d xs h.r (right_records C) (inr (omega (arith, f.room))) f.hole.right;
            start = f.hole.start;
            whole = f.hole.whole;
            room = omega (arith, f.hole.room, length_puts rs d xs);
            frame = f.hole.frame;
          };
          focus = there_put rs d xs (omega (arith, f.room, f.hole.whole, f.hole.room));
          end = sym e;
          gap = omega (arith, f.room);
        })

    pub fill_does : CanPutAhead rs h src n → PutsAhead rs rs' h src n filled
    fill_does c = record { does = fills_hole; left = refl; place = omega (arith, c.fills.room); level = refl }

pub ruleset filling = (fill_down, fill_can, fill_does)

-- `dropped`
module _ (rs : List Record) (z : Focus) where
  pub drop_in : HasMatch rs z → z.top < length rs
  drop_in h = (frame_read rs (first₃ h.kind h.fields h.success h.failure) h.context z.s z.r z.top h.laid.around).0

  pub drop_trees : HasMatch rs z → HasTrees rs z.r 2
  drop_trees h = record {
    trees = h.success ∷ h.failure ∷ [];
    count = refl;
    there = next_ones rs (first₃ h.kind h.fields h.success h.failure) h.context z.s z.r z.top h.laid.around;
  }

  module _ (link e : ℕ) (k : LinkIs rs z.top link) (sk : SkipsAll rs z.r 2 e) where
    abbrev left_out : Ahead
    left_out = record { l = z.top; r = e; top = link; level = 0 }

    module _ (m : Ternary) (f : Fields) (s o : Term) (C : Context) (q : Term) (h : LaidAt rs z (first₃ m f s o ∷ C) q) where
      abbrev F : Frame
      F = first₃ m f s o

      end_is : e ≡ z.r + sizes (children_after F)
      end_is = sk.is (children_after F) refl (next_ones rs F C z.s z.r z.top h.around)

      ends : e ≡ z.r + size s + size o
      unfolding sizes
      ends = omega (arith, end_is)

      hole_left : HoleAt rs left_out C
      unfolding right_size
      hole_left = record {
        left = outer rs F C z.s z.r z.top h.around;
        right = rw end_is (later_ones rs F C z.s z.r z.top h.around);
        start = at_top rs F C z.s z.r z.top h.around;
        whole = omega (arith, end_is, h.around.whole);
        room = h.around.room;
        frame = k.is ∙ ap (λ r. r.first) (frame_read rs F C z.s z.r z.top h.around).1;
      }

    pub drop_does : Drops rs z left_out
    drop_does = record { hole = hole_left; left = refl; end = ends; level = refl }

pub ruleset dropping = (drop_in, drop_trees, drop_does)
