-- `copy_replaced`: replacing is a sound way to copy, a variable that gives way is written out, and those that do are counted. `replacing_laws` for
-- search: where a law asks that a number or a record is equal to what it stands for, search finds it without unfolding the one to see the other.
use Prim.Native.Nat.{ℕ, suc, ◌+◌, ◌-◌, ◌/◌, ◌≤◌, ◌<◌}
use native.Mathlib.Omega.{arith}
use native.Mathlib.Decide.{dec_lt, ℕ_discrete}
use mathlib.Core.List.{List, [], ◌∷◌}
use mathlib.Core.Bool.{Bool, true, false, false≢true}
use mathlib.Core.Logic.{⊎_elim}
use mathlib.Core.Path.{◌≡◌, refl, sym, ap, ◌∙◌}
use lib.Dec.{eqb, ltb}
use lib.ListN.{length, get_or}
use borrow.Author.Tests.{lt-ltb, le-ltb, eq-eqb, ne_eqb}
use mir.Syntax.{w64}
use mir.Val.{Fits}
use Rattle.rules.specs.Lists.{pick, All}
use Rattle.rules.specs.Kinds.{variable, Kind, child_count, kind_of}
use Rattle.rules.specs.Terms.{Fields, Term, leaf, root_kind, size}
use Rattle.rules.specs.FreeBounds.{free_bound}
use Rattle.rules.specs.Indices.{Change, with_index, changed, raised, lowered_index, replacing, wrapped, names_removed, summed, gives, gave_way}
use Rattle.rules.specs.Format.{Record, no_record}
use Rattle.rules.proofs.Moving.{replaced_bound, replaced_removed, replaced_beyond}
use Rattle.rules.proofs.Shifts.{unnamed}
use Rattle.rules.proofs.FreeBounds.{replacing_low}
use Rattle.rules.proofs.ChangedBounds.{bound_wrapped, bound_replaced}
use Rattle.rules.proofs.Events.{gave_most}
use Rattle.kinds.specs.Named.{IsKind}
use Rattle.records.specs.View.{records_in}
use Rattle.terms.specs.Preorder.{head, At, HasTree, Skips}
use Rattle.terms.specs.Moves.{CanMove}
use Rattle.terms.specs.Measuring.{binders_over, HasRooted, MarksRoot}
use Rattle.substitution.specs.declared.arguments.Argument.{Argument}
use Rattle.substitution.specs.declared.arguments.Argument.TheVariants.{Tree, Quote, Opened}
use Rattle.substitution.specs.declared.arguments.Arguments.{Arguments}
use Rattle.substitution.specs.declared.replacing.Copied.{Copied}
use Rattle.substitution.specs.Arguments.{described, count_of, argument_of}
use Rattle.copies.specs.Roots.{moved_field}
use Rattle.copies.specs.Copying.{CopyAt, CanCopy, BlockMoved, is_named, MovesRoot, PutsIndexed}
use Rattle.substitution.specs.Making.{MakingAt, CanCopyArgument, CopiesArgument}
use Rattle.substitution.specs.Replacing.{Given, Replacing, Replaces}
use Rattle.copies.proofs.RaisedRoots.{size_raised}
use Rattle.copies.proofs.Rows.{child}
use Rattle.copies.proofs.Parts.{root_known, root_moves}
use Rattle.substitution.proofs.Sums.{block_gives_none, Adding, adding_starts, adding_next, adding_most, adding_ends}
use Rattle.copies.proofs.Copies.{Stays, tree_stays, Sound, Spot, named, read_root, read_bound, read_spot, RootOf, Copying, root_of, block_can, block_does, copy_in, copy_to, copy_from_fits}
use Rattle.copies.proofs.Copies.{copy_starts, copy_ends, copy_rooted, copy_falls, next_one, next_meant, next_copy, over, turn_tree, turn_can, turn_next}

-- `lowered_index`
pub lowered_stays : (i m d : ℕ) → i < d → i ≡ lowered_index m d i
lowered_stays i m d l = rw (lt-ltb i d l)

pub lowered_falls : (i m d r : ℕ) → d ≤ i → r ≡ i - m → r ≡ lowered_index m d i
lowered_falls i m d r l e = rw (le-ltb i d l) e

-- What an argument stands for reaches no further than its tree.
described_low : (g : Argument) (u : Term) → free_bound (described g u) ≤ free_bound u
unfolding described free_bound wrapped
described_low (Tree at) u = omega arith
described_low (Quote at ty) u = omega arith
described_low (Opened at ty a b) u = omega (arith, bound_wrapped a 0 u)

-- What holds of the element at each place holds of all.
each_all : {A : Type 0} (P : A → Type 0) (xs : List A) → ((j : ℕ) (z : A) → j < length xs → P (get_or xs j z)) → All P xs
each_all P [] h = tt
each_all P (x ∷ xs) h = (h 0 x (omega arith), each_all P xs (λ j z l. h (suc j) z (omega arith)))

-- Arguments stand for the same where their trees stay.
given_stays : (rs rs' : List Record) (lo hi b : ℕ) (g : Arguments) (ts : List Term) → Stays lo hi rs rs' → Given rs lo hi g ts b → Given rs' lo hi g ts b
given_stays rs rs' lo hi b g ts s h =
    let q = h.stand in
    record {
      stand = record {
        count = q.count;
        each = λ j z l. let p = q.each j z l in record { tree = p.tree; there = tree_stays lo hi rs rs' _ p.tree s p.outside p.there; outside = p.outside; is = p.is };
      };
      reach = h.reach;
    }

module _ (g : Arguments) where
  module _ (rs : List Record) (lo hi b : ℕ) (ts : List Term) (h : Given rs lo hi g ts b) where
    terms_low : All (λ t. free_bound t ≤ b) ts
    terms_low = each_all (λ t. free_bound t ≤ b) ts (λ j z l.
        let k : j < count_of g = omega (arith, h.stand.count) in
        let s = h.stand.each j z k in
        omega (arith, ap free_bound s.is, described_low (argument_of g (eqb j 0)) s.tree, h.reach j z k))

    replacing_steady : (d : ℕ) (f : Fields) → names_removed (count_of g) d f.a ≡ false → (replacing ts).on_variable d f ≡ leaf variable (with_index f (lowered_index (length ts) d f.a))
    replacing_steady d f e = ⊎_elim
        (λ l. replaced_bound ts d f l ∙ ap (λ i. leaf variable (with_index f i)) (lowered_stays f.a (length ts) d l))
        (λ l. replaced_beyond ts d f (omega (arith, h.stand.count)) ∙ ap (λ i. leaf variable (with_index f i)) (lowered_falls f.a (length ts) d (f.a - length ts) (omega arith) refl))
        (unnamed (count_of g) d f.a (rw e tt))

  pub replacing_sound : Sound (Replacing g) (count_of g) (λ d. lowered_index (count_of g) d)
  replacing_sound = record {
    low = λ rs lo hi b c h. rw h.change (replacing_low h.terms);
    index = λ rs lo hi b c h d. ap (λ q. q.on_index d) h.change ∙ ap (λ n. lowered_index n d) h.given.stand.count;
    steady = λ rs lo hi b c h d f o. rw h.change (replacing_steady rs lo hi b h.terms h.given d f o);
    reach = λ rs lo hi b c h d t. rw h.change (omega (arith, bound_replaced h.terms b (terms_low rs lo hi b h.terms h.given) d t));
    stays = λ rs rs' lo hi b c s h. record { terms = h.terms; change = h.change; given = given_stays rs rs' lo hi b g h.terms s h.given };
  }

-- The innermost removed binder is the one with the index d.
pub innermost : (d i : ℕ) → d ≤ i → eqb (i - d) 0 ≡ eqb i d
innermost d i h = elim (ℕ_discrete i d) [
  | yes e ↦ eq-eqb (i - d) 0 (omega arith) ∙ sym (eq-eqb i d e)
  | no n ↦ ne_eqb (i - d) 0 (λ e. n (omega arith)) ∙ sym (ne_eqb i d n)
]

-- An index that names a removed binder is from d on and below those beyond.
names_within : (m d i : ℕ) → names_removed m d i ≡ true → (d ≤ i) × (i < d + m)
names_within m d i e = elim (dec_lt i d) [
  | yes l ↦ absurd (false≢true (sym (ap (λ b. pick b false (ltb i (d + m))) (lt-ltb i d l)) ∙ e))
  | no n ↦ elim (dec_lt i (d + m)) [
    | yes l ↦ (omega arith, l)
    | no k ↦ absurd (false≢true (sym (ap (λ b. pick b false (ltb i (d + m))) (le-ltb i d (omega arith)) ∙ le-ltb i (d + m) (omega arith)) ∙ e))
  ]
]

-- The kind of its root is known.
pub replaced_known : (rs : List Record) (src dst d : ℕ) (g : Arguments) (r : Record) → r ≡ get_or rs src no_record → CanCopy (Replacing g) rs src dst d → IsKind r.kind
replaced_known rs src dst d g r e h = root_known rs src r e h.tree h.copy.there

-- A variable that gives way.
module _ (rs : List Record) (src dst d : ℕ) (g : Arguments) (r : Record) (e : r ≡ get_or rs src no_record) (l : d < r.next / 2) (kd : Kind) (u : kd ≡ kind_of r.kind) (k : ℕ) (o : k ≡ child_count kd)
    (x : Bool) (i : x ≡ is_named k (count_of g) d r.fields.a) (y : x ≡ true) where
  record Use (t : Term) : Type 0 where
    fields : Fields
    is : t ≡ leaf variable fields
    index : r.fields.a ≡ fields.a
    named_one : names_removed (count_of g) d fields.a ≡ true
    from : d ≤ fields.a
    to : fields.a < d + count_of g

  is_use : (t : Term) → At rs src t → Use t
  is_use t h = told (rw (← i, y) at (read_spot rs src r e t h (count_of g) d l k (o ∙ ap child_count u)))
    where
      told : Spot (count_of g) d t true → Use t
      told (named f p q) =
          let (a, b) = names_within (count_of g) d f.a q in
          record { fields = f; is = p; index = ap (λ z. z.fields.a) (read_root rs src r e t h ∙ ap head p); named_one = q; from = a; to = b }

  module _ (lo hi b : ℕ) (c : Change) (t : Term) (s : Replacing g rs lo hi c b) (h : CopyAt c b rs lo hi src dst d t) where
    abbrev found : Use t
    found = is_use t h.there

    abbrev place : ℕ
    place = found.fields.a - d

    abbrev term_for : Term
    term_for = get_or s.terms place (leaf variable found.fields)

    is_raised : changed c d t ≡ raised d term_for
    unfolding changed
    is_raised = ap (λ z. changed z d t) s.change ∙ ap (changed (replacing s.terms) d) found.is ∙ replaced_removed s.terms d found.fields found.from (omega (arith, found.to, s.given.stand.count))

    size_same : size (changed c d t) ≡ size term_for
    unfolding raised
    size_same = ap size is_raised ∙ size_raised d 0 term_for

    making : (q : Argument) → q ≡ argument_of g (eqb r.fields.a d) → MakingAt rs lo hi q dst d term_for
    making q w =
        let f = h.fits in
        let n : place < count_of g = omega (arith, found.to, found.from) in
        let v : q ≡ argument_of g (eqb place 0) =
        w ∙ ap (λ z. argument_of g (eqb z d)) found.index ∙ ap (argument_of g) (sym (innermost d found.fields.a found.from)) in
        rw v (record {
          stands = s.given.stand.each place (leaf variable found.fields) n;
          start = f.start;
          room = omega (arith, f.room, size_same);
          within = f.within;
          few = f.few;
          low = omega (arith, f.low, s.given.reach place (leaf variable found.fields) n);
        })

  module _ (q : Argument) (w : q ≡ argument_of g (eqb r.fields.a d)) where
    pub use_can : CanCopy (Replacing g) rs src dst d → CanCopyArgument rs q dst d
    use_can h = record { lo = h.lo; hi = h.hi; term = term_for _ _ _ _ _ h.meant h.copy; makes = making _ _ _ _ _ h.meant h.copy q w }

    pub use_replaces : (rs' : List Record) (end : ℕ) → CopiesArgument rs rs' q dst d end → Replaces rs rs' src dst d g (record { end = end; replaced = 1 })
    unfolding gave_way summed
    use_replaces rs' end p = record {
      copies = record { does = λ lo hi b c t s h. rw (is_raised lo hi b c t s h) (p.does lo hi (term_for lo hi b c t s h) (making lo hi b c t s h q w)) };
      counts = record {
        is = λ lo hi b c t s h.
            let u = is_use t h.there in
            sym (ap (gave_way (count_of g) d) u.is ∙ ap (λ z. pick {A = ℕ} z 1 0) u.named_one);
      };
    }

-- A block: none gives way.
pub block_fits : (rs : List Record) (src dst d : ℕ) (g : Arguments) → CanCopy (Replacing g) rs src dst d → (r : Record) → r ≡ get_or rs src no_record → r.next / 2 ≤ d → (n : ℕ) → n ≡ r.first → CanMove rs src dst n
block_fits rs src dst d g h r e l n q = rw q (block_can (Replacing g) (count_of g) _ (replacing_sound g) rs src dst d r e l h)

pub block_replaces : (rs : List Record) (src dst d : ℕ) (g : Arguments) (r : Record) → r ≡ get_or rs src no_record → r.next / 2 ≤ d → (rs' : List Record) (o : ℕ) → BlockMoved rs rs' src dst r.first o
    → Replaces rs rs' src dst d g (record { end = o; replaced = 0 })
block_replaces rs src dst d g r e l rs' o w = record {
  copies = block_does (Replacing g) (count_of g) _ (replacing_sound g) rs src dst d r e l rs' o w;
  counts = record { is = λ lo hi b c t s h. sym (block_gives_none (count_of g) d t (omega (arith, read_bound rs src r e t h.there))) };
}

-- The loop over the children: of the n children of the root at src, child j is the next to be copied, from `at` to `to`, and z variables gave way
-- in those before it.
pub record ReplacingChildren (g : Arguments) (rs₁ : List Record) (src dst d : ℕ) (k : Kind) (n : ℕ) (rs : List Record) (at to z j : ℕ) : Type 0 where
  count : n ≡ child_count k
  copying : Copying (Replacing g) (count_of g) rs₁ src dst d k rs at to j
  adding : Adding (RootOf (Replacing g) (count_of g) rs₁ src dst d k) (gives (count_of g)) 0 d j z

-- A root that stays is written with the index a.
module _ (rs : List Record) (src dst d : ℕ) (g : Arguments) (r : Record) (e : r ≡ get_or rs src no_record) (l : d < r.next / 2) (k : Kind) (u : k ≡ kind_of r.kind) (n : ℕ) (o : n ≡ child_count k)
    (x : Bool) (i : x ≡ is_named n (count_of g) d r.fields.a) (y : x ≡ false) (a : ℕ) (m : a ≡ moved_field (lowered_index (count_of g) d) k r.fields.a) (rs₁ : List Record) (w : PutsIndexed rs rs₁ dst r a) where
  count_read : n ≡ child_count (kind_of r.kind)
  count_read = o ∙ ap child_count u

  moves : MovesRoot (lowered_index (count_of g) d) rs rs₁ dst r
  moves = root_moves (lowered_index (count_of g) d) rs rs₁ dst r k u a m w

  pub children_start : CanCopy (Replacing g) rs src dst d → ReplacingChildren g rs₁ src dst d k n rs₁ (src + 1) (dst + 1) 0 0
  children_start h = rw u (record {
    count = count_read;
    copying = copy_starts (Replacing g) (count_of g) _ (replacing_sound g) rs src dst d r e l n count_read x i y rs₁ moves h;
    adding = adding_starts _ (gives (count_of g)) 0 d (λ t v f q. ap (λ z. pick {A = ℕ} z 1 0) (v.rooted.unnamed f q));
  })

  -- Once its children are copied, the copy is whole, and all that gave way are counted.
  pub root_replaces : (rs₂ : List Record) (at to z j : ℕ) → ReplacingChildren g rs₁ src dst d k n rs₂ at to z j → n ≤ j → (rs₃ : List Record) (end : ℕ) → MarksRoot rs₂ rs₃ dst end
      → Replaces rs rs₃ src dst d g (record { end = end; replaced = z })
  unfolding gave_way
  root_replaces rs₂ at to z j p q rs₃ end s =
      let p′ = rw u at p in
      record {
        copies = copy_ends (Replacing g) (count_of g) _ (replacing_sound g) rs src dst d r e l n count_read x i y rs₁ moves rs₂ at to j p′.copying q rs₃ end s;
        counts = record {
          is = λ lo hi b c t s h.
              let v = root_of (Replacing g) (count_of g) (λ d. lowered_index (count_of g) d) (replacing_sound g) rs src dst d r e l n count_read x i y rs₁ moves lo hi b c t s h in
              adding_ends (RootOf (Replacing g) (count_of g) rs₁ src dst d (kind_of r.kind)) (gives (count_of g)) 0 d j z p′.adding t v (omega (arith, count_read, ap child_count v.rooted.kind));
        };
      }

module _ (g : Arguments) (rs₁ : List Record) (src dst d : ℕ) (k : Kind) (n : ℕ) (rs : List Record) (at to z j : ℕ) (p : ReplacingChildren g rs₁ src dst d k n rs at to z j) where
  -- All children are copied.
  pub children_copied : n ≤ j → HasRooted rs dst
  children_copied l = copy_rooted (Replacing g) (count_of g) _ (replacing_sound g) rs₁ src dst d k rs at to j n p.copying p.count l

  -- One is left.
  module _ (l : j < n) where
    pub child_tree : HasTree rs at
    child_tree = turn_tree (Replacing g) (count_of g) _ (replacing_sound g) rs₁ src dst d k rs at to j n p.copying p.count l

    module _ (u : ℕ) (b : u ≡ binders_over k j) where
      pub child_can : (g' : Arguments) (e : ℕ) → g' ≡ g → e ≡ d + u → CanCopy (Replacing g') rs at to e
      child_can g' e x y = rw (x, y) (turn_can (Replacing g) (count_of g) _ (replacing_sound g) rs₁ src dst d k rs at to j n p.copying p.count l u b)

      -- Its copy, in which as many gave way as its variables say.
      module _ (rs' : List Record) (r : Copied) (w : Replaces rs rs' at to (d + u) g r) where
        counted : (t : Term) → RootOf (Replacing g) (count_of g) rs₁ src dst d k t
            → (j < child_count (root_kind t)) × (r.replaced ≡ summed (gives (count_of g)) 0 (d + binders_over (root_kind t) j) (child t j))
        unfolding gave_way
        counted t v =
            let o = over (Replacing g) (count_of g) _ (replacing_sound g) rs₁ src dst d k rs at to j n p.copying p.count l u b t v in
            let q = next_copy (Replacing g) (count_of g) _ (replacing_sound g) rs₁ src dst d k rs at to j n p.copying p.count l t v in
            let m = next_meant (Replacing g) (count_of g) _ (replacing_sound g) rs₁ src dst d k rs at to j n p.copying p.count l t v in (
              next_one (Replacing g) (count_of g) _ (replacing_sound g) rs₁ src dst d k rs at to j n p.copying p.count l t v,
              rw o at (w.counts.is v.lo v.hi v.reach v.change (child t j) m (rw o q)),
            )

        pub replaced_fits : Fits w64 (z + r.replaced)
        unfolding gave_way
        replaced_fits =
            let v = p.copying in
            omega (arith, adding_most _ (gives (count_of g)) 0 d j z p.adding r.replaced counted v.tree v.of, gave_most (count_of g) d v.tree, v.of.rooted.fits.low)

-- The child is copied, and the one after it is next.
pub child_replaced : (g : Arguments) (rs rs' : List Record) (at to d u : ℕ) (r : Copied) → Replaces rs rs' at to (d + u) g r → (rs₁ : List Record) (src dst : ℕ) (k : Kind) (n z j : ℕ)
    → ReplacingChildren g rs₁ src dst d k n rs at to z j → (end : ℕ) → Skips rs at end → j < n → u ≡ binders_over k j → (to' z' : ℕ) → to' ≡ r.end → z' ≡ z + r.replaced
    → ReplacingChildren g rs₁ src dst d k n rs' end to' z' (j + 1)
child_replaced g rs rs' at to d u r w rs₁ src dst k n z j p end sk l b to' z' x y = rw (x, y) (record {
  count = p.count;
  copying = turn_next (Replacing g) (count_of g) _ (replacing_sound g) rs₁ src dst d k rs at to j n p.copying p.count l u b end sk rs' r.end w.copies;
  adding = adding_next _ (gives (count_of g)) 0 d j z p.adding r.replaced (counted g rs₁ src dst d k n rs at to z j p l u b rs' r w);
})

-- What falls is the number of records from the tree on.
pub child_falls : (g : Arguments) (s₁ : List ℕ) (src dst d : ℕ) (k : Kind) (n : ℕ) (s : List ℕ) (at to z j : ℕ) → ReplacingChildren g (records_in s₁) src dst d k n (records_in s) at to z j → j < n
    → (s₀ : List ℕ) → length s₁ ≡ length s₀ → (q : ℕ) → length (records_in s₀) - src ≡ q → length (records_in s) - at < q
child_falls g s₁ src dst d k n s at to z j p l s₀ y q o =
    copy_falls (Replacing g) (count_of g) _ (replacing_sound g) s₁ src dst d k s at to j n p.copying p.count l s₀ y q o

pub ruleset replacing_laws = (copy_in, copy_from_fits, block_fits, block_replaces, child_tree, child_can, child_falls, replaced_fits, child_replaced, children_copied)
