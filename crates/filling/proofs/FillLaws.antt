-- The laws of the walk.
use Prim.Native.Nat.{ℕ, ◌+◌, ◌-◌, ◌≤◌}
use native.Mathlib.Omega.{arith}
use mathlib.Core.Path.{◌≡◌, refl, ap, ap₂, sym, subst, ◌∙◌}
use mathlib.Core.List.{List, [], ◌∷◌, ◌++◌, map}
use mathlib.Core.Option.{Option, none}
use lib.Seq.{length-take-le}
use lib.ListN.{length, set, length-append, length-map}
use Rattle.std.specs.Prelude.{Result, Ok, Err, IfOk}
use Rattle.rules.specs.Kinds.{kind_of}
use Rattle.rules.specs.Terms.{Term}
use Rattle.rules.specs.Types.{Table}
use Rattle.rules.specs.Typing.{Env, bind, under, first_level}
use Rattle.rules.specs.Format.{Record, most_types}
use Rattle.rules.specs.Links.{first_of, next_of, node}
use Rattle.rules.specs.Refusals.{bad_children, table_full}
use Rattle.rules.specs.Refusals.{Refusal as MeantRefusal}
use Rattle.rules.specs.Conditions.{Holds}
use Rattle.rules.specs.Check.{children, children_rule}
use Rattle.rules.proofs.Tests.{holds_lowest, both_pass, holds_unless}
use Rattle.rules.proofs.Tree.{next_from, fields_node}
use Rattle.kinds.specs.declared.names.Kind.{Kind}
use Rattle.kinds.specs.Named.{kind_meant}
use Rattle.inference.specs.Inference.{retyped, table_for, number_for, wanted, filled, unless_refused, no_term, assigned, inferred_from}
use Rattle.inference.proofs.Generations.{inferred_nothing}
use Rattle.records.specs.declared.Record.{Record as Read}
use Rattle.records.specs.View.{records_in}
use Rattle.records.specs.Places.{IsRecord, Follows}
use Rattle.refusals.specs.declared.reasons.Refusal.{Refusal}
use Rattle.judging.specs.declared.Binders.{Binders}
use Rattle.judging.specs.Stack.{binders_of, outermost, Rebinds}
use Rattle.judging.specs.Tests.{fields_meant}
use Rattle.judging.proofs.Stacking.{outermost_inside}
use Rattle.typing.specs.Reading.{second_of, third_of, kind_no, fields_no}
use Rattle.typing.specs.Pushing.{PushesFirst, PushesSecond}
use Rattle.typing.proofs.PushLaws.{first_few, second_few}
use Rattle.typing.proofs.RecordLaws.{first_link, second_link, third_link}
use Rattle.typing.proofs.TreeCounts.{none_after_third}
use Rattle.tables.specs.Having.{buffer_of}
use Rattle.assigning.specs.Assigning.{wanted_for, fault_for, Assigns}
use Rattle.filling.specs.declared.Filler.{Filler}
use Rattle.filling.specs.Filling.{fault_of, firsts, types_at, size_at, CanInfer, records_of, env_of, table_of, Continues, CanFill, inference_at, Filled, Fills, CanSettle, Settles}
use Rattle.filling.proofs.FaultLaws.{fault_unless, unless_none, assigned_by}
use Rattle.filling.proofs.TypeLaws.{types_there, types_node, firsts_none, firsts_own, firsts_three}
use Rattle.filling.proofs.Inferring.{infers_first, infers_second, wanted_follows}
use Rattle.filling.proofs.Coming.{size_there, continues_then, Come, one_left, entered, room_two, long, come_grows, come_child, still, come_type, come_before, come_further}
use Rattle.filling.proofs.Sequence.{child_from, first_env, second_env, First, Second, Third, stopped_first, stopped_second, stopped_third, all_three}

-- A child that is none.
pub child_none : (f : Filler) (k n : ℕ) → f.table.now.types ≤ most_types → n ≡ 0 → Fills f f k n (Ok 0)
unfolding fault_of size_at
child_none f k n few e =
    let o : inference_at f k n ≡ filled (table_of f) no_term = rw e (inferred_nothing (records_of f) (length (records_of f)) _ _ k) in
    record {
      reports = rw o refl;
      done = record { term = no_term; is = o; few = few; type = refl; types = firsts_none f.given.now f.left n no_term e; counted = rw e (omega arith); kept = refl };
      continues = record { records = refl; table = refl; bytes = refl; given = refl; capacity = refl; room = refl; places = refl };
    }

-- The binders that were bound over a child are left again.
left_again : (q b : Binders) (Γ Δ : Env) (l : ℕ) (ns : List ℕ) (d : ℕ) → d ≡ length Γ → Δ ≡ under l ns Γ → Rebinds q b (outermost d Δ) → Rebinds q b Γ
left_again q b Γ Δ l ns d h e back = record { are = back.are ∙ rw (h, e) (outermost_inside (map (bind l) ns) Γ); room = back.room }

under_few : (l : ℕ) (ns : List ℕ) (Γ : Env) → length ns ≤ 2 → length (under l ns Γ) ≤ length Γ + 2
under_few l ns Γ h = omega (arith, length-append (map (bind l) ns) Γ, length-map ns (bind l))

under_deep : (l : ℕ) (ns : List ℕ) (Γ Δ : Env) (d : ℕ) → d ≡ length Γ → Δ ≡ under l ns Γ → d ≤ length Δ
under_deep l ns Γ Δ d h e = omega (arith, ap length e, length-append (map (bind l) ns) Γ)

-- The inference of a child, in the terms of the record.
same_inference : (p f : Filler) (k m : ℕ) {Γ : Env} → p.records.now ≡ f.records.now → env_of p ≡ Γ → child_from (records_of f) Γ k m (table_of p) ≡ inference_at p k m
same_inference p f k m records env = λ i. inferred_from (length (records_in (sym records i))) (table_of p) (records_in (sym records i)) (sym env i) k m

-- Record n, at level l, of whose children's trees the first, the first two or all are done: how far the walk has come, and what they came to.
pub record AfterFirst (f : Filler) (l n : ℕ) (g : Filler) (x : ℕ) : Type 0 where
  pub come : Come f n g (second_of (records_of f) n) x
  pub went : First (records_of f) (env_of f) l n (record f { left = f.left - 1 }) g x

pub record AfterSecond (f : Filler) (l n x : ℕ) (g : Filler) (y : ℕ) : Type 0 where
  pub after : Filler
  pub one : AfterFirst f l n after x
  pub come : Come f n g (third_of (records_of f) n) x
  pub went : Second (records_of f) (env_of f) l n after g y

pub record AfterThird (f : Filler) (l n x y : ℕ) (g : Filler) (z : ℕ) : Type 0 where
  pub after : Filler
  pub two : AfterSecond f l n x after y
  pub come : Come f n g (next_of (records_of f) (third_of (records_of f) n)) x
  pub went : Third (records_of f) (env_of f) l n after g z

-- Record n is r, of this kind.
kind_is : (rs : List Record) (n : ℕ) (r : Read) (kind : Kind) → IsRecord rs n r → kind_meant kind ≡ kind_of r.kind → kind_meant kind ≡ kind_no rs n
kind_is rs n r kind own named = named ∙ ap (λ q. kind_of q.kind) own.is

-- The walk of record n, which is r, at level l: its first child, under what is bound over it.
module _ {f : Filler} {n : ℕ} (can : CanFill f n) {r : Read} (own : IsRecord (records_of f) n r) {kind : Kind} (named : kind_meant kind ≡ kind_of r.kind)
    {l : ℕ} {b : Binders} (pushed : PushesFirst kind l r.a f.binders b) where
  first_bound : Rebinds f.binders b (first_env (records_of f) (env_of f) l n)
  first_bound = rw (kind_is (records_of f) n r kind own named) at (pushed.binds (fields_no (records_of f) n) (sym (ap (λ q. q.fields.a) own.is)))

  first_fits : length (first_env (records_of f) (env_of f) l n) ≤ length (env_of f) + 2
  first_fits = under_few l _ (env_of f) (first_few (fields_no (records_of f) n) (kind_no (records_of f) n))

  first_over : (A : Table) → CanInfer (records_of f) A (env_of f) → CanInfer (records_of f) A (first_env (records_of f) (env_of f) l n)
  first_over A infers = infers_first infers n can.here.real can.here.within l

  first_is : r.first ≡ first_of (records_of f) n
  first_is = first_link (records_of f) n r own can.here

  pub first_asks : (r.first ≡ 0 → ⊥) → CanFill (record f { binders = b; left = f.left - 1 }) r.first
  first_asks there = rw first_is (come_child (entered can) first_bound first_fits first_over (λ e. there (first_is ∙ e)))

  pub first_stops : {q : Filler} {k : ℕ} {e : Refusal} → k ≡ first_level (kind_meant kind) l → Fills (record f { binders = b; left = f.left - 1 }) q k r.first (Err e) → Fills f q l n (Err e)
  first_stops {e = e} at fills =
      let fills₁ = rw first_is at fills in
      record {
        reports = stopped_first (records_of f) (env_of f) l n can.here.real can.here.within f e (rw (first_bound.are, at, kind_is (records_of f) n r kind own named) at fills₁.reports);
        done = tt;
        continues = still (entered can) first_bound first_fits first_over fills₁;
      }

  -- Its tree is done, and the binders over it are left again.
  module _ (q : Filler) (x : ℕ) (fills : Fills (record f { binders = b; left = f.left - 1 }) q (first_level (kind_meant kind) l) r.first (Ok x)) {d : ℕ} (deep : d ≡ length (env_of f)) where
    fills₁ : Fills (record f { binders = b; left = f.left - 1 }) q (first_level (kind_no (records_of f) n) l) (first_of (records_of f) n) (Ok x)
    fills₁ = rw (first_is, kind_is (records_of f) n r kind own named) at fills

    inside₁ : env_of q ≡ first_env (records_of f) (env_of f) l n
    inside₁ = fills₁.done.kept ∙ first_bound.are

    pub first_deep : d ≤ length (env_of q)
    first_deep = under_deep l _ (env_of f) (env_of q) d deep inside₁

    pub first_done : {b' : Binders} → Rebinds q.binders b' (outermost d (env_of q)) → AfterFirst f l n (record q { binders = b' }) x
    first_done back = record {
      come = come_further (entered can) first_bound first_fits first_over fills₁ x (come_type (entered can) first_bound first_fits first_over fills₁)
          (left_again q.binders _ (env_of f) (env_of q) l _ d deep inside₁ back);
      went = record { term = fills₁.done.term; is = rw first_bound.are at fills₁.done.is; type = fills₁.done.type; types = fills₁.done.types };
    }

-- Its second child, under what is bound over that.
module _ {f : Filler} {n : ℕ} {r : Read} (own : IsRecord (records_of f) n r) {kind : Kind} (named : kind_meant kind ≡ kind_of r.kind) {s : ℕ} (follows : Follows (records_of f) r.first s)
    {l : ℕ} {g : Filler} {x : ℕ} (one : AfterFirst f l n g x) {b : Binders} (pushed : PushesSecond kind r.a r.b g.binders b) where
  second_bound : Rebinds g.binders b (second_env (records_of f) (env_of f) n)
  second_bound = rw (kind_is (records_of f) n r kind own named, one.come.kept) at (pushed.binds (fields_no (records_of f) n) (sym (ap (λ q. q.fields.a) own.is)) (sym (ap (λ q. q.fields.b) own.is)))

  second_fits : length (second_env (records_of f) (env_of f) n) ≤ length (env_of f) + 2
  second_fits = under_few 0 _ (env_of f) (second_few (fields_no (records_of f) n) (kind_no (records_of f) n))

  second_over : (A : Table) → CanInfer (records_of f) A (env_of f) → CanInfer (records_of f) A (second_env (records_of f) (env_of f) n)
  second_over A infers = infers_second infers n one.come.can.here.real one.come.can.here.within

  second_is : s ≡ second_of (records_of f) n
  second_is = second_link (records_of f) n r own one.come.can.here s follows

  pub second_asks : (s ≡ 0 → ⊥) → CanFill (record g { binders = b }) s
  second_asks there = rw second_is (come_child one.come second_bound second_fits second_over (λ e. there (second_is ∙ e)))

  pub second_stops : {q : Filler} {e : Refusal} → Fills (record g { binders = b }) q l s (Err e) → Fills f q l n (Err e)
  second_stops {e = e} fills =
      let fills₂ = rw second_is at fills in
      record {
        reports = stopped_second (records_of f) (env_of f) l n one.come.can.here.real one.come.can.here.within (record f { left = f.left - 1 }) one.went e (rw (one.come.continues.records, second_bound.are) at fills₂.reports);
        done = tt;
        continues = still one.come second_bound second_fits second_over fills₂;
      }

  module _ (q : Filler) (y : ℕ) (fills : Fills (record g { binders = b }) q l s (Ok y)) {d : ℕ} (deep : d ≡ length (env_of f)) where
    fills₂ : Fills (record g { binders = b }) q l (second_of (records_of f) n) (Ok y)
    fills₂ = rw second_is at fills

    inside₂ : env_of q ≡ second_env (records_of f) (env_of f) n
    inside₂ = fills₂.done.kept ∙ second_bound.are

    pub second_deep : d ≤ length (env_of q)
    second_deep = under_deep 0 _ (env_of f) (env_of q) d deep inside₂

    pub second_done : {b' : Binders} → Rebinds q.binders b' (outermost d (env_of q)) → AfterSecond f l n x (record q { binders = b' }) y
    second_done back = record {
      after = g;
      one = one;
      come = come_further one.come second_bound second_fits second_over fills₂ x (come_before one.come second_bound second_fits second_over fills₂)
          (left_again q.binders _ (env_of f) (env_of q) 0 _ d deep inside₂ back);
      went = record { term = fills₂.done.term; is = same_inference (record g { binders = b }) f l _ one.come.continues.records second_bound.are ∙ fills₂.done.is; type = fills₂.done.type; types = fills₂.done.types };
    }

-- Its third child, which stands where the record itself does.
module _ {f : Filler} {n : ℕ} {r : Read} (own : IsRecord (records_of f) n r) {s e : ℕ} (follows : Follows (records_of f) r.first s) (last : Follows (records_of f) s e)
    {l : ℕ} {g : Filler} {x y : ℕ} (two : AfterSecond f l n x g y) where
  third_bound : Rebinds g.binders g.binders (env_of f)
  third_bound = record { are = two.come.kept; room = refl }

  third_is : e ≡ third_of (records_of f) n
  third_is = third_link (records_of f) n r own two.come.can.here s e follows last

  pub third_asks : (e ≡ 0 → ⊥) → CanFill g e
  third_asks there = rw third_is (come_child two.come third_bound (omega arith) (λ A infers. infers) (λ z. there (third_is ∙ z)))

  pub third_stops : {q : Filler} {m : Refusal} → Fills g q l e (Err m) → Fills f q l n (Err m)
  third_stops {m = m} fills =
      let fills₃ = rw third_is at fills in
      record {
        reports = stopped_third (records_of f) (env_of f) l n two.come.can.here.real two.come.can.here.within (record f { left = f.left - 1 }) two.one.went two.went m (rw (two.come.continues.records, two.come.kept) at fills₃.reports);
        done = tt;
        continues = still two.come third_bound (omega arith) (λ A infers. infers) fills₃;
      }

  pub third_done : (q : Filler) (z : ℕ) → Fills g q l e (Ok z) → AfterThird f l n x y q z
  third_done q z fills =
      let fills₃ = rw third_is at fills in
      record {
        after = g;
        two = two;
        come = come_further two.come third_bound (omega arith) (λ A infers. infers) fills₃ x (come_before two.come third_bound (omega arith) (λ A infers. infers) fills₃)
            (record { are = fills₃.done.kept ∙ two.come.kept; room = refl });
        went = record { term = fills₃.done.term; is = same_inference g f l _ two.come.continues.records two.come.kept ∙ fills₃.done.is; type = fills₃.done.type; types = fills₃.done.types };
      }

-- The record itself, after its children.
module _ {f : Filler} {n : ℕ} {r : Read} (own : IsRecord (records_of f) n r) {l : ℕ} {g : Filler} {x y z : ℕ} (three : AfterThird f l n x y g z) where
  abbrev children_of : List ℕ
  children_of = x ∷ y ∷ z ∷ []

  wanted_same : wanted_for (table_of g) (env_of g) r children_of ≡ wanted (table_of g) (env_of f) (kind_no (records_of f) n) (fields_no (records_of f) n) x y
  wanted_same = ap (λ q. wanted (table_of g) (env_of g) (kind_of q.kind) q.fields x y) own.is ∙ ap (λ Γ. wanted (table_of g) Γ (kind_no (records_of f) n) (fields_no (records_of f) n) x y) three.come.kept

  pub settle_asks : {at : ℕ} → at ≡ length f.given.now - f.left → CanSettle g r at children_of
  settle_asks h =
      let come = three.come in
      record {
        assigns = record {
          table = come_grows come;
          binders = omega (arith, room_two come);
          follows = rw wanted_same (rw (long come) at (wanted_follows come.infers n come.can.here.real come.can.here.within x y (omega (arith, long come, come.low))));
        };
        within = omega (arith, one_left come.can, come.can.given, come.continues.places);
      }

  module _ {h : Filler} {at : ℕ} (place : at ≡ length f.given.now - f.left) {a : Result ℕ Refusal} (settles : Settles g h l n r at children_of a) where
    abbrev A : Table
    A = table_of g

    fault : Option MeantRefusal
    fault = fault_for A (env_of g) l n r children_of

    abbrev own_table : Table
    own_table = table_for A (wanted_for A (env_of g) r children_of)

    abbrev own_term : Term → Term → Term → Term
    own_term c s e = node (kind_of r.kind) (retyped (number_for A (wanted_for A (env_of g) r children_of)) (fields_meant r)) c s e

    abbrev c : Term
    c = three.two.one.went.term

    abbrev s : Term
    s = three.two.went.term

    abbrev e : Term
    e = three.went.term

    abbrev root : Term
    root = own_term c s e

    -- What the record comes to, by its fault.
    by_fault : inference_at f l n ≡ unless_refused fault (filled own_table root)
    unfolding fault
    by_fault =
        all_three (records_of f) (env_of f) l n three.come.can.here.real three.come.can.here.within (record f { left = f.left - 1 }) three.two.one.went three.two.went three.went
        ∙ (λ i. assigned A (sym three.come.kept i) l (kind_of (sym own.is i).kind) (sym own.is i).fields n c s e)
        ∙ assigned_by A (env_of g) l n r x y z c s e three.two.one.went.type three.two.went.type three.went.type

    told : (o : Option MeantRefusal) → o ≡ fault → o ≡ fault_of (inference_at f l n)
    told o h = h ∙ sym (ap fault_of by_fault ∙ fault_unless fault own_table root)

    continues_both : Continues f h
    continues_both = continues_then three.come.continues settles.continues

    done_own : (ty : ℕ) → Assigns g.table.now h.table.now (env_of g) l n r children_of (Ok ty) → h.given.now ≡ set g.given.now at ty → Filled f h n (inference_at f l n) ty
    unfolding fault fault_for
    done_own ty assigns put =
        let come = three.come in
        let w₁ = three.two.one.went in
        let w₂ = three.two.went in
        let w₃ = three.went in
        let has = assigns.held in
        let none : fault ≡ none = sym assigns.reports in
        let table : own_table ≡ table_of h = sym has.table in
        let long : length own_table ≡ h.table.now.types = ap length table ∙ length-take-le h.table.now.types (buffer_of h.table.now) (omega (arith, has.fits, has.room, come.continues.room, come.can.table, come.few)) in
        let rule = holds_lowest (children_rule (records_of f)) bad_children 1 (length (records_of f)) come.can.chained n come.can.here.real (omega (arith, come.can.here.within)) in
        let here : (n ≡ 0 → ⊥) = λ z. omega (arith, come.can.here.real) in
        let typed = fields_node (kind_of r.kind) _ c s e in
        let first = first_of (records_of f) n in
        let second = second_of (records_of f) n in
        let third = third_of (records_of f) n in
        record {
          term = root;
          is = by_fault ∙ unless_none fault _ none ∙ ap (λ A. filled A root) table;
          few = omega (arith, (holds_unless _ table_full n (both_pass _ _ none).1).0, long);
          type = has.number ∙ ap (λ f. f.type) (sym typed);
          types = ap₂ firsts (put ∙ ap (λ m. set g.given.now m ty) (place ∙ ap (λ m. m - f.left) (sym come.continues.places))) settles.left
              ∙ firsts_own f.given.now g.given.now _ f.left g.left ty come.continues.places (one_left come.can) come.can.given come.less
              (firsts_three _ _ _ _ (types_at first c) (types_at second s) (types_at third e) w₁.types w₂.types w₃.types)
              ∙ ap (λ t. firsts f.given.now f.left ++ t) (sym (types_there n _ come.can.here.real
              ∙ types_node (kind_of r.kind) _ c s e _ _ _ _
              (subst (λ k. Holds (children k first second third (next_of (records_of f) third))) (ap (λ q. kind_of q.kind) (sym own.is)) rule) (next_from (records_of f) _) (next_from (records_of f) _)
              ∙ ap (λ m. m ∷ (types_at first c ++ (types_at second s ++ types_at third e))) (sym has.number)));
          counted = omega (arith, come.counted, settles.left, size_there (records_of f) n here, none_after_third (records_of f) come.can.chained n come.can.here.real come.can.here.within);
          kept = ap binders_of settles.binders ∙ come.kept;
        }

    by_result : (a : Result ℕ Refusal) → Assigns g.table.now h.table.now (env_of g) l n r children_of a → IfOk a (λ ty. h.given.now ≡ set g.given.now at ty) → Fills f h l n a
    unfolding fault
    by_result (Ok ty) assigns put = record { reports = told none assigns.reports; done = done_own ty assigns put; continues = continues_both }
    by_result (Err m) assigns put = record { reports = told _ assigns.reports; done = tt; continues = continues_both }

    pub fills_settled : Fills f h l n a
    fills_settled = by_result a settles.assigns settles.given
