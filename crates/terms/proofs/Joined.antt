-- `measured`: the measures of a tree are those of its root's record, joined with each child's. `joining` for search.
use Prim.Native.Nat.{ℕ, zero, suc, ◌+◌, ◌-◌, ◌*◌, ◌^◌, ◌≤◌, ◌<◌, max}
use native.Mathlib.Omega.{arith}
use native.Mathlib.Numerals.{add-one}
use mathlib.Core.List.{List, [], ◌∷◌}
use mathlib.Core.Bool.{Bool, true, false, ◌&&◌}
use mathlib.Core.Logic.{◌≢◌}
use mathlib.Core.Path.{◌≡◌, refl, sym, ap, ap₂, ◌∙◌, subst}
use lib.ListN.{length, get_or, set}
use mir.Syntax.{w16, w64}
use mir.Val.{Fits}
use Rattle.rules.specs.Lists.{pick}
use Rattle.rules.specs.Kinds.{Kind, unary₁, ternary₃, child_count, kind_of}
use Rattle.rules.specs.Terms.{Fields, Term, leaf, unary, binary, ternary, root_kind, fields_of, size}
use Rattle.rules.specs.Binders.{over_first, over_second, binders_first, binders_second}
use Rattle.rules.specs.FieldUses.{an_index, uses, use_number}
use Rattle.rules.specs.FreeBounds.{own_bound, free_bound}
use Rattle.rules.specs.Values.{plain_kind, plain}
use Rattle.rules.specs.Format.{Record, no_record}
use Rattle.rules.proofs.KindTable.{each_kind, kind_back}
use Rattle.records.specs.View.{records_in}
use Rattle.records.proofs.Records.{records_length}
use Rattle.terms.specs.Children.{kids, sizes, preorders}
use Rattle.terms.proofs.Children.{kids_count, kids_sizes}
use Rattle.terms.specs.declared.measuring.Measure.{Measure}
use Rattle.terms.specs.Preorder.{bound_and_plain, head, There, At, HasTree}
use Rattle.terms.specs.Measuring.{binders_over, OwnIndexFits, OwnIs, Joins, RootedAt, HasRooted, MeasuresTree, Relinks, MarksRoot}
use Rattle.terms.proofs.Trees.{first_tree, later_trees}

-- `binders_over`
pub over_others : (k : Kind) (j : ℕ) → j ≢ 0 → j ≢ 1 → binders_over k j ≡ 0
over_others k zero p q = absurd (p refl)
over_others k (suc zero) p q = absurd (q refl)
over_others k (suc (suc j)) p q = refl

pub binds_few : (k : Kind) (j : ℕ) → binders_over k j ≤ 2
binds_few k zero = each_kind (λ k. binders_first k ≤ 2) (omega arith) k
binds_few k (suc zero) = each_kind (λ k. binders_second k ≤ 2) (omega arith) k
binds_few k (suc (suc j)) = omega arith

-- `own_bound`
pub own_index_of : (f : Fields) (k : Kind) → (uses k).a ≡ an_index → own_bound k f ≡ f.a + 1
own_index_of f k u = each_kind (λ k. use_number (uses k).a ≡ 1 → own_bound k f ≡ f.a + 1) (omega arith) k (ap use_number u)

-- The bound b and the answer p, joined with those of children from child j on.
unfoldable joined_bound : Kind → ℕ → ℕ → List Term → ℕ
joined_bound k j b [] = b
joined_bound k j b (t ∷ ts) = joined_bound k (suc j) (max b (free_bound t - binders_over k j)) ts

unfoldable joined_plain : Bool → List Term → Bool
joined_plain p [] = p
joined_plain p (t ∷ ts) = joined_plain (p && plain t) ts

pub first_over : (f : Fields) (k : Kind) → length (over_first k f) ≡ binders_first k
first_over f = each_kind (λ k. length (over_first k f) ≡ binders_first k) (omega arith)

pub second_over : (f : Fields) (k : Kind) → length (over_second k f) ≡ binders_second k
second_over f = each_kind (λ k. length (over_second k f) ≡ binders_second k) (omega arith)

max_left : (a b c : ℕ) → max a (max b c) ≡ max (max a b) c
max_left a b c = omega arith

max_none : (a b : ℕ) → max a (max b 0) ≡ max a b
max_none a b = omega arith

and_left : (a b c : Bool) → a && (b && c) ≡ (a && b) && c
and_left true b c = refl
and_left false b c = refl

bound_joined : (t : Term) → free_bound t ≡ joined_bound (root_kind t) 0 (own_bound (root_kind t) (fields_of t)) (kids t)
unfolding free_bound joined_bound kids
bound_joined (leaf k f) = omega arith
bound_joined (unary k f t) = omega (arith, first_over f (unary₁ k))
bound_joined (binary k f t u) = max_left 0 (free_bound t - 0) (max (free_bound u - 0) 0) ∙ max_none (max 0 (free_bound t - 0)) (free_bound u - 0)
bound_joined (ternary k f t s e) =
    let z : free_bound e ≡ free_bound e - 0 = omega arith in
    rw (← (second_over f (ternary₃ k))) (max_left (own_bound (ternary₃ k) f) (free_bound t - 0) (max (free_bound s - length (over_second (ternary₃ k) f)) (free_bound e))
    ∙ max_left (max (own_bound (ternary₃ k) f) (free_bound t - 0)) (free_bound s - length (over_second (ternary₃ k) f)) (free_bound e)
    ∙ ap (max (max (max (own_bound (ternary₃ k) f) (free_bound t - 0)) (free_bound s - length (over_second (ternary₃ k) f)))) z)

plain_joined : (t : Term) → plain t ≡ joined_plain (plain_kind (root_kind t)) (kids t)
unfolding plain joined_plain kids
plain_joined (leaf k f) = refl
plain_joined (unary k f t) = refl
plain_joined (binary k f t u) = refl
plain_joined (ternary k f t s e) = and_left (plain_kind (ternary₃ k)) (plain t) (plain s && plain e) ∙ and_left (plain_kind (ternary₃ k) && plain t) (plain s) (plain e)

-- So the bounds of the children from j on are that of the tree, and the binders over them, at most.
abbrev pub BoundedBy : ℕ → Kind → ℕ → List Term → Type 0
BoundedBy b k j [] = Unit {0}
BoundedBy b k j (t ∷ ts) = (free_bound t ≤ b + binders_over k j) × BoundedBy b k (suc j) ts

pub bounded_by : (t : Term) → BoundedBy (free_bound t) (root_kind t) 0 (kids t)
unfolding free_bound kids
bounded_by (leaf k f) = tt
bounded_by (unary k f t) = (omega (arith, first_over f (unary₁ k)), tt)
bounded_by (binary k f t u) = (omega arith, (omega arith, tt))
bounded_by (ternary k f t s e) = (omega arith, (omega (arith, second_over f (ternary₃ k)), (omega arith, tt)))

-- Before child j is joined: it is the first of the children that are left.
record Rest (rs : List Record) (i : ℕ) (m : Measure) (j : ℕ) (t : Term) : Type 0 where
  rest : List Term
  there : There rs m.end (preorders rest)
  count : j + length rest ≡ child_count (root_kind t)
  place : m.end + sizes rest ≡ i + size t
  bound : free_bound t ≡ joined_bound (root_kind t) j m.bound rest
  plain : plain t ≡ joined_plain m.plain rest

pub record Joining (rs : List Record) (i : ℕ) (k : Kind) (m : Measure) (j : ℕ) : Type 0 where
  all : (t : Term) → RootedAt rs i t → (k ≡ root_kind t) × Rest rs i m j t
  tree : Term
  rooted : RootedAt rs i tree

pub rooted_fits : (s : List ℕ) (i : ℕ) → HasRooted (records_in s) i → length s < 2 ^ 64 → Fits w64 (i + 1)
rooted_fits s i h b = omega (arith, h.there.within, records_length s)

pub own_least : (t : Term) → own_bound (root_kind t) (fields_of t) ≤ free_bound t
unfolding free_bound
own_least (leaf k f) = omega arith
own_least (unary k f t) = omega arith
own_least (binary k f t u) = omega arith
own_least (ternary k f t s e) = omega arith

module _ (rs : List Record) (i : ℕ) (r : Record) (e : r ≡ get_or rs i no_record) (k : Kind) (kd : k ≡ kind_of r.kind) where
  root_kind_lem : (t : Term) → RootedAt rs i t → k ≡ root_kind t
  root_kind_lem t h = kd ∙ ap kind_of (ap (λ x. x.kind) e ∙ h.kind) ∙ kind_back (root_kind t)

  root_index : (t : Term) → RootedAt rs i t → (fields_of t).a ≡ r.fields.a
  root_index t h = sym (ap (λ x. x.fields.a) e ∙ ap (λ x. x.a) h.fields)

  pub index_fits : HasRooted rs i → OwnIndexFits k r.fields.a
  index_fits h = record {
    index = λ u. omega (
      arith,
      own_index_of (fields_of h.tree) (root_kind h.tree) (ap (λ k. (uses k).a) (sym (root_kind_lem h.tree h.there)) ∙ u),
      own_least h.tree,
      h.there.low,
      root_index h.tree h.there,
    );
  }

  pub joining_starts : (b : ℕ) (p : Bool) → OwnIs k r.fields.a b → p ≡ plain_kind k → HasRooted rs i → Joining rs i k (record { end = i + 1; bound = b; plain = p }) 0
  joining_starts b p o q h = record { all = λ t g. (root_kind_lem t g, begin t g); tree = h.tree; rooted = h.there }
    where
      begin : (t : Term) → RootedAt rs i t → Rest rs i (record { end = i + 1; bound = b; plain = p }) 0 t
      begin t g = let n = root_kind_lem t g in
          record {
            rest = kids t;
            there = g.children;
            count = omega (arith, kids_count t);
            place = omega (arith, kids_sizes t);
            bound = bound_joined t ∙ ap (λ x. joined_bound (root_kind t) 0 x (kids t)) (sym (o.is (fields_of t) (root_index t g) ∙ ap (λ x. own_bound x (fields_of t)) n));
            plain = plain_joined t ∙ ap (λ x. joined_plain x (kids t)) (sym (q ∙ ap plain_kind n));
          }

-- One turn.
module _ (rs : List Record) (i : ℕ) (k : Kind) (m : Measure) (j c : ℕ) (r : Joining rs i k m j) (n : c ≡ child_count k) where
  record Turn (t : Term) : Type 0 where
    child : Term
    later : List Term
    there : At rs m.end child
    after : There rs (m.end + size child) (preorders later)
    count : suc j + length later ≡ child_count (root_kind t)
    place : m.end + size child + sizes later ≡ i + size t
    bound : free_bound t ≡ joined_bound (root_kind t) (suc j) (max m.bound (free_bound child - binders_over (root_kind t) j)) later
    plain : plain t ≡ joined_plain (m.plain && plain child) later

  turn : j < c → (t : Term) → RootedAt rs i t → Turn t
  unfolding sizes joined_bound joined_plain
  turn l t g = let (e, q) = r.all t g in go e q.rest q.there q.count q.place q.bound q.plain
    where
      go : k ≡ root_kind t → (us : List Term) → There rs m.end (preorders us) → j + length us ≡ child_count (root_kind t) → m.end + sizes us ≡ i + size t
          → free_bound t ≡ joined_bound (root_kind t) j m.bound us → plain t ≡ joined_plain m.plain us → Turn t
      go e [] h o f b p = absurd (omega (arith, ap child_count e))
      go e (u ∷ us) h o f b p = record {
        child = u;
        later = us;
        there = first_tree rs m.end u us h;
        after = later_trees rs m.end u us h;
        count = omega arith;
        place = omega arith;
        bound = b;
        plain = p;
      }

  pub turn_tree : j < c → HasTree rs m.end
  turn_tree l = let q = turn l r.tree r.rooted in record { tree = q.child; there = q.there }

  pub turn_next : (o : ℕ) (m' : Measure) → j < c → o ≡ binders_over k j → Joins rs m o m' → Joining rs i k m' (j + 1)
  turn_next o m' l b w = record { all = λ t g. ((r.all t g).0, next t g); tree = r.tree; rooted = r.rooted }
    where
      next : (t : Term) → RootedAt rs i t → Rest rs i m' (j + 1) t
      next t g =
          let q = turn l t g in
          let e = w.end q.child q.there in
          let x : m'.bound ≡ max m.bound (free_bound q.child - binders_over (root_kind t) j) =
          w.bound q.child q.there ∙ ap (λ y. max m.bound (free_bound q.child - y)) (b ∙ ap (λ y. binders_over y j) (r.all t g).0) in
          record {
            rest = q.later;
            there = subst (λ y. There rs y (preorders q.later)) (sym e) q.after;
            count = omega (arith, q.count);
            place = omega (arith, q.place);
            bound = q.bound ∙ ap₂ (λ y z. joined_bound (root_kind t) y z q.later) (sym (add-one j)) (sym x);
            plain = q.plain ∙ ap (λ y. joined_plain y q.later) (sym (w.plain q.child q.there));
          }

  pub joining_ends : c ≤ j → MeasuresTree rs i m
  unfolding sizes joined_bound joined_plain
  joining_ends l = record { end = λ t g. (ended t g).0; bound = λ t g. (ended t g).1; plain = λ t g. (ended t g).2 }
    where
      ended : (t : Term) → RootedAt rs i t → (m.end ≡ i + size t) × (m.bound ≡ free_bound t) × (m.plain ≡ plain t)
      ended t g = let (e, q) = r.all t g in last e q.rest q.count q.place q.bound q.plain
        where
          last : k ≡ root_kind t → (us : List Term) → j + length us ≡ child_count (root_kind t) → m.end + sizes us ≡ i + size t
              → free_bound t ≡ joined_bound (root_kind t) j m.bound us → plain t ≡ joined_plain m.plain us → (m.end ≡ i + size t) × (m.bound ≡ free_bound t) × (m.plain ≡ plain t)
          last e [] o f b p = (omega arith, sym b, sym p)
          last e (u ∷ us) o f b p = absurd (omega (arith, ap child_count e))

-- `mark_root`
module _ (rs : List Record) (i : ℕ) (m : Measure) (q : MeasuresTree rs i m) where
  pub mark_down : HasRooted rs i → i ≤ m.end
  mark_down h = omega (arith, q.end h.tree h.there)

  pub mark_cast : HasRooted rs i → Fits w16 (m.end - i)
  mark_cast h = omega (arith, q.end h.tree h.there, h.there.few)

  pub mark_low : HasRooted rs i → 2 * m.bound + 1 < 65536
  mark_low h = omega (arith, q.bound h.tree h.there, h.there.low)

  pub root_marked : (rs' : List Record) (n : ℕ) → n ≡ 2 * m.bound + pick m.plain 1 0 → Relinks rs rs' i (m.end - i) n → MarksRoot rs rs' i m.end
  root_marked rs' n e p = record { does = λ t h. (p.is ∙ ap (set rs i) (root t h), q.end t h) }
    where
      root : (t : Term) → RootedAt rs i t → record { kind = (get_or rs i no_record).kind; fields = (get_or rs i no_record).fields; first = m.end - i; next = n } ≡ head t
      root t h =
          let f : m.end - i ≡ size t = omega (arith, q.end t h) in
          let b : n ≡ bound_and_plain t = e ∙ ap₂ (λ x y. 2 * x + pick y 1 0) (q.bound t h) (q.plain t h) in
          λ j. record { kind = h.kind j; fields = h.fields j; first = f j; next = b j }

pub ruleset marking = (mark_down, mark_cast, mark_low, root_marked)

pub ruleset joining = (rooted_fits, index_fits, joining_starts, turn_tree, turn_next, joining_ends)
