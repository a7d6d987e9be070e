-- The laws of the walk.
use Prim.Native.Nat.{ℕ, ◌+◌, ◌-◌, ◌*◌, ◌≤◌, ◌<◌}
use native.Mathlib.Omega.{arith}
use mathlib.Core.Path.{◌≡◌, refl, ap, ap₂, sym, ◌∙◌}
use mathlib.Core.List.{List, [], map}
use mathlib.Core.Option.{Option, none}
use lib.ListN.{length, length-append, length-map}
use Rattle.std.specs.Prelude.{Result, Ok, Err}
use Rattle.rules.specs.Kinds.{kind_of}
use Rattle.rules.specs.Types.{Table}
use Rattle.rules.specs.Binders.{over_first, over_second}
use Rattle.rules.specs.Terms.{Fields}
use Rattle.rules.specs.Typing.{bind, under, first_level}
use Rattle.rules.specs.Format.{Record}
use Rattle.rules.specs.Links.{first_of, next_of}
use Rattle.rules.specs.Check.{walked}
use Rattle.rules.specs.Refusals.{Refusal, bad_link, bad_children, ◌then◌}
use Rattle.rules.proofs.Tests.{holds_lowest}
use Rattle.rules.proofs.Tree.{first_le, next_le, chain_size, chain_none, whole_size}
use Rattle.rules.proofs.Meaning.{no_bad_link}
use Rattle.kinds.specs.declared.names.Kind.{Kind}
use Rattle.kinds.specs.Named.{kind_meant}
use Rattle.records.specs.declared.Record.{Record as Read}
use Rattle.records.specs.Meant.{record_meant}
use Rattle.records.specs.Places.{IsRecord, Follows}
use Rattle.refusals.specs.declared.reasons.Reason.{Reason}
use Rattle.refusals.proofs.Reporting.{reports_first, reports_next}
use Rattle.judging.specs.declared.Binders.{Binders}
use Rattle.judging.specs.Stack.{binders_of, capacity, outermost, Rebinds}
use Rattle.judging.specs.Tests.{refused_at}
use Rattle.judging.proofs.Stacking.{outermost_inside}
use Rattle.typing.specs.Reading.{second_of, third_of, kind_no, fields_no}
use Rattle.typing.specs.Pushing.{PushesFirst, PushesSecond}
use Rattle.typing.specs.Walking.{judged_at, JudgesRead, OfJudging, tree_size, refusal_in, Packs, CanWalk, Walks, MakeTree}
use Rattle.typing.proofs.RecordLaws.{first_link, second_link, third_link}
use Rattle.typing.proofs.PushLaws.{first_few, second_few}
use Rattle.typing.proofs.TreeCounts.{tree_then_chain, record_then_chain, none_after_third}
use Rattle.typing.proofs.NumberLaws.{passed_number, refused_number}
use Rattle.typing.proofs.WalkedBy.{from_first, from_second, from_third, walked_by, first_nothing, second_nothing, third_nothing, walked_of_judging}

-- A record's tree has a record, so that one is left, and there is room for what the record binds.
module _ (rs : List Record) (b : Binders) (n left : ℕ) (can : CanWalk rs b n left) where
  pub one_left : 1 ≤ left
  one_left = omega (arith, can.enough, record_then_chain rs can.chained n can.here.real can.here.within)

  pub room_first : length (binders_of b) + 2 ≤ capacity b
  room_first = omega (arith, can.room, one_left)

-- How far the walk of record n has come. Its checks so far have passed, so that it says what the `rest` of them says, which begins with the tree of
-- `child`; q is its answer where there is no such child. The binders b' are those before it.
record WalkedSoFar (types : Table) (rs : List Record) (b b' : Binders) (l n left q child : ℕ) (rest : Option Refusal) : Type 0 where
  pub kept : Rebinds b b' (binders_of b)
  pub says : rest ≡ walked (length rs) types rs (binders_of b) l n
  pub nothing : child ≡ 0 → rest ≡ none
  pub falls : q < left
  pub counted : q + tree_size rs n ≡ left + chain_size rs child

-- Inside the binders b, variables of the types ns are bound at level m, two at most.
record BindsFew (m : ℕ) (ns : List ℕ) (b b' : Binders) : Type 0 where
  pub pushed : Rebinds b b' (under m ns (binders_of b))
  pub few : length ns ≤ 2

module _ {types : Table} {rs : List Record} {b : Binders} {l n left : ℕ} (can : CanWalk rs b n left)
    {b₀ : Binders} {q child : ℕ} {rest : Option Refusal} (far : WalkedSoFar types rs b b₀ l n left q child rest) where
  -- Without a child the walk ends.
  ends : child ≡ 0 → Walks types rs b b₀ l n left q
  ends e = record {
    tells = sym (passed_number q (omega (arith, far.falls, can.most))) ∙ sym (far.nothing e) ∙ far.says;
    counted = λ _. omega (arith, far.counted, ap (chain_size rs) e, chain_none rs);
    kept = far.kept;
  }

  -- A child's tree can be walked with the records left.
  module _ (there : child ≡ 0 → ⊥) (within : child ≤ length rs) {m : ℕ} {ns : List ℕ} {b₁ : Binders} (over : BindsFew m ns b₀ b₁) where
    inside : binders_of b₁ ≡ under m ns (binders_of b)
    inside = over.pushed.are ∙ ap (under m ns) far.kept.are

    deep : length (binders_of b₁) ≡ length ns + length (binders_of b)
    deep = ap length inside ∙ simp (length-append, length-map)

    real : 1 ≤ child
    real = omega (arith, there)

    goes : CanWalk rs b₁ child q
    goes = record {
      here = record { linked = can.here.linked; real = real; within = within };
      chained = can.chained;
      enough = omega (arith, far.counted, can.enough, tree_then_chain rs can.chained child real within);
      most = omega (arith, far.falls, can.most);
      room = omega (arith, far.falls, can.room, over.few, deep, far.kept.room, over.pushed.room);
    }

    -- The child's tree stops the walk, or passes. What is bound over it is left again.
    module _ {k : ℕ} {b₂ : Binders} {p : ℕ} (walk : Walks types rs b₁ b₂ k child q p) where
      bound : {depth : ℕ} → depth ≡ length (binders_of b) → depth ≤ length (binders_of b₂)
      bound e = omega (arith, ap length walk.kept.are, deep)

      left_again : {depth : ℕ} {b₃ : Binders} → depth ≡ length (binders_of b) → Rebinds b₂ b₃ (outermost depth (binders_of b₂)) → Rebinds b b₃ (binders_of b)
      left_again e cut = record {
        are = cut.are ∙ ap₂ outermost e (walk.kept.are ∙ inside) ∙ outermost_inside (map (bind m) ns) (binders_of b);
        room = cut.room ∙ walk.kept.room ∙ over.pushed.room ∙ far.kept.room;
      }

      left_after : p < 65536 → p + tree_size rs n ≡ left + chain_size rs (next_of rs child)
      left_after e = omega (arith, far.counted, walk.counted e, tree_then_chain rs can.chained child real within)

      told : refusal_in p ≡ walked (length rs) types rs (under m ns (binders_of b)) k child
      told = rw inside at walk.tells

      module _ (more : Option Refusal) (begins : rest ≡ walked (length rs) types rs (under m ns (binders_of b)) k child then more)
          {b₃ : Binders} (kept : Rebinds b b₃ (binders_of b)) where
        stops : 65536 ≤ p → Walks types rs b b₃ l n left p
        stops h =
            let refused = refused_number p (omega arith) in
            record {
              tells = refused ∙ reports_first _ _ more (sym refused ∙ told) ∙ sym begins ∙ far.says;
              counted = λ e. absurd (omega arith);
              kept = kept;
            }

        passes : {next : ℕ} → next ≡ next_of rs child → (next ≡ 0 → more ≡ none) → p < 65536 → WalkedSoFar types rs b b₃ l n left p next more
        passes follows nothing e = record {
          kept = kept;
          says = reports_next more _ more (passed_number p (omega arith) ∙ told) refl ∙ sym begins ∙ far.says;
          nothing = nothing;
          falls = omega (arith, far.falls, walk.counted e);
          counted = omega (arith, left_after e, ap (chain_size rs) follows);
        }

-- The walk of record n, which is r, of this kind; v is its own fault. That stops the walk, or there is none.
module _ (types : Table) (rs : List Record) (b : Binders) (l n left : ℕ) (can : CanWalk rs b n left) (r : Read) (own : IsRecord rs n r)
    (kind : Kind) (named : kind_meant kind ≡ kind_of r.kind) (v : Result Unit Reason) (judged : JudgesRead types rs (binders_of b) l kind r v) where
  by_own : judged_at types rs (binders_of b) l n then from_first types rs (binders_of b) l n ≡ walked (length rs) types rs (binders_of b) l n
  by_own = sym (walked_by types rs (binders_of b) l n can.here.real can.here.within)

  own_told : refused_at n v ≡ judged_at types rs (binders_of b) l n
  own_told = judged.tells n can.here own named

  pub stops_own : (reason : Reason) → v ≡ Err reason → (q : ℕ) → Packs reason n q → Walks types rs b b l n left q
  stops_own reason e q p = record {
    tells = p.holds ∙ reports_first _ _ _ (rw e at own_told) ∙ by_own;
    counted = λ e. absurd (omega (arith, p.refused));
    kept = record { are = refl; room = refl };
  }

  abbrev f : Fields
  f = (record_meant r).fields

  its_kind : kind_meant kind ≡ kind_no rs n
  its_kind = named ∙ ap (λ x. kind_of x.kind) own.is

  its_fields : f ≡ fields_no rs n
  its_fields = ap (λ x. x.fields) own.is

  its_first : r.first ≡ first_of rs n
  its_first = first_link rs n r own can.here

  module _ (x : Unit) (well : v ≡ Ok x) where
    passes_own : WalkedSoFar types rs b b l n left (left - 1) r.first (from_first types rs (binders_of b) l n)
    passes_own = record {
      kept = record { are = refl; room = refl };
      says = reports_next _ _ _ (rw well at own_told) refl ∙ by_own;
      nothing = λ e. first_nothing types rs (binders_of b) l n (sym its_first ∙ e);
      falls = omega (arith, one_left rs b n left can);
      counted = omega (arith, one_left rs b n left can, record_then_chain rs can.chained n can.here.real can.here.within, ap (chain_size rs) its_first);
    }

    pub ends_leaf : r.first ≡ 0 → Walks types rs b b l n left (left - 1)
    ends_leaf e = ends can passes_own e

    -- The first child's tree.
    module _ (there : r.first ≡ 0 → ⊥) (b₁ : Binders) (pushed : PushesFirst kind l r.a b b₁) where
      over_its_first : BindsFew l (over_first (kind_meant kind) f) b b₁
      over_its_first = record { pushed = pushed.binds f refl; few = first_few f (kind_meant kind) }

      first_within : r.first ≤ length rs
      first_within = rw its_first (first_le rs n)

      pub goes_first : CanWalk rs b₁ r.first (left - 1)
      goes_first = goes can passes_own there first_within over_its_first

      module _ (m : ℕ) (b₂ : Binders) (p : ℕ) (walk : Walks types rs b₁ b₂ m r.first (left - 1) p) (depth : ℕ) (deep : depth ≡ length (binders_of b)) where
        pub bound_first : depth ≤ length (binders_of b₂)
        bound_first = bound can passes_own there first_within over_its_first walk deep

        module _ (at : m ≡ first_level (kind_meant kind) l) where
          begins_first : from_first types rs (binders_of b) l n
              ≡ walked (length rs) types rs (under l (over_first (kind_meant kind) f) (binders_of b)) m r.first then from_second types rs (binders_of b) l n
          unfolding from_first
          begins_first = rw (at, its_fields, its_kind, its_first) refl

          module _ (b₃ : Binders) (cut : Rebinds b₂ b₃ (outermost depth (binders_of b₂))) where
            kept₃ : Rebinds b b₃ (binders_of b)
            kept₃ = left_again can passes_own there first_within over_its_first walk deep cut

            pub stops_first : 65536 ≤ p → Walks types rs b b₃ l n left p
            stops_first h = stops can passes_own there first_within over_its_first walk _ begins_first kept₃ h

            -- What follows the first child is the second.
            module _ (low : p < 65536) (next : ℕ) (follows : Follows rs r.first next) where
              its_second : next ≡ second_of rs n
              its_second = second_link rs n r own can.here next follows

              passes_first : WalkedSoFar types rs b b₃ l n left p next (from_second types rs (binders_of b) l n)
              passes_first = passes can passes_own there first_within over_its_first walk _ begins_first kept₃ follows.is (λ e. second_nothing types rs (binders_of b) l n (sym its_second ∙ e)) low

              pub ends_first : next ≡ 0 → Walks types rs b b₃ l n left p
              ends_first e = ends can passes_first e

              pub room_second : length (binders_of b₃) + 2 ≤ capacity b₃
              room_second = omega (arith, room_first rs b n left can, ap length kept₃.are, kept₃.room)

              -- The second child's tree, which can be walked whatever kind bound variables over it.
              module _ (there₂ : next ≡ 0 → ⊥) (b₄ : Binders) where
                second_within : next ≤ length rs
                second_within = rw its_second (next_le rs (first_of rs n))

                module _ (k₂ : Kind) (x₂ y₂ : ℕ) (some₂ : PushesSecond k₂ x₂ y₂ b₃ b₄) where
                  abbrev g : Fields
                  g = record { type = 0; a = x₂; b = y₂; value = 0 }

                  over_second_child : BindsFew 0 (over_second (kind_meant k₂) g) b₃ b₄
                  over_second_child = record { pushed = some₂.binds g refl refl; few = second_few g (kind_meant k₂) }

                  pub goes_second : CanWalk rs b₄ next p
                  goes_second = goes can passes_first there₂ second_within over_second_child

                  pub bound_second : (b₅ : Binders) (p₂ : ℕ) → Walks types rs b₄ b₅ l next p p₂ → depth ≤ length (binders_of b₅)
                  bound_second b₅ p₂ walk₂ = bound can passes_first there₂ second_within over_second_child walk₂ deep

                module _ (pushed₂ : PushesSecond kind r.a r.b b₃ b₄) (b₅ : Binders) (p₂ : ℕ) (walk₂ : Walks types rs b₄ b₅ l next p p₂) where
                  over_its_second : BindsFew 0 (over_second (kind_meant kind) f) b₃ b₄
                  over_its_second = record { pushed = pushed₂.binds f refl refl; few = second_few f (kind_meant kind) }

                  begins_second : from_second types rs (binders_of b) l n
                      ≡ walked (length rs) types rs (under 0 (over_second (kind_meant kind) f) (binders_of b)) l next then from_third types rs (binders_of b) l n
                  unfolding from_second
                  begins_second = rw (its_fields, its_kind, its_second) refl

                  module _ (b₆ : Binders) (cut₂ : Rebinds b₅ b₆ (outermost depth (binders_of b₅))) where
                    kept₆ : Rebinds b b₆ (binders_of b)
                    kept₆ = left_again can passes_first there₂ second_within over_its_second walk₂ deep cut₂

                    pub stops_second : 65536 ≤ p₂ → Walks types rs b b₆ l n left p₂
                    stops_second h = stops can passes_first there₂ second_within over_its_second walk₂ _ begins_second kept₆ h

                    -- The third child's tree, over which nothing is bound.
                    module _ (low₂ : p₂ < 65536) (e : ℕ) (last : Follows rs next e) where
                      its_third : e ≡ third_of rs n
                      its_third = third_link rs n r own can.here next e follows last

                      passes_second : WalkedSoFar types rs b b₆ l n left p₂ e (from_third types rs (binders_of b) l n)
                      passes_second =
                          passes can passes_first there₂ second_within over_its_second walk₂ _ begins_second kept₆ last.is (λ z. third_nothing types rs (binders_of b) l n (sym its_third ∙ z)) low₂

                      pub ends_second : e ≡ 0 → Walks types rs b b₆ l n left p₂
                      ends_second z = ends can passes_second z

                      module _ (there₃ : e ≡ 0 → ⊥) where
                        over_its_third : BindsFew 0 [] b₆ b₆
                        over_its_third = record { pushed = record { are = refl; room = refl }; few = omega arith }

                        third_within : e ≤ length rs
                        third_within = rw its_third (next_le rs (second_of rs n))

                        pub goes_third : CanWalk rs b₆ e p₂
                        goes_third = goes can passes_second there₃ third_within over_its_third

                        pub ends_third : (b₇ : Binders) (p₃ : ℕ) → Walks types rs b₆ b₇ l e p₂ p₃ → Walks types rs b b₇ l n left p₃
                        unfolding from_third
                        ends_third b₇ p₃ walk₃ = record {
                          tells = rw (its_third, kept₆.are) at walk₃.tells ∙ passes_second.says;
                          counted = λ low₃. omega (
                            arith,
                            left_after can passes_second there₃ third_within over_its_third walk₃ low₃,
                            ap (λ m. chain_size rs (next_of rs m)) its_third,
                            none_after_third rs can.chained n can.here.real can.here.within,
                          );
                          kept = record { are = walk₃.kept.are ∙ kept₆.are; room = walk₃.kept.room ∙ kept₆.room };
                        }

-- The walk from the root: its tree has all the records.
pub root_asked : (rs : List Record) (b : Binders) → MakeTree rs → binders_of b ≡ [] → 2 * length rs ≤ capacity b → CanWalk rs b 1 (length rs)
root_asked rs b h nothing room =
    let whole = whole_size rs (holds_lowest _ bad_children 1 (length rs) h.chained) (holds_lowest _ bad_link 1 (length rs) h.linked) h.real in
    record {
      here = record { linked = no_bad_link rs h.linked; real = omega arith; within = h.real };
      chained = h.chained;
      enough = omega (arith, whole);
      most = h.most;
      room = omega (arith, ap length nothing);
    }

pub root_of_judging : (types : Table) (rs : List Record) (b b' : Binders) (left q : ℕ) → Walks types rs b b' 0 1 left q → OfJudging (refusal_in q)
root_of_judging types rs b b' left q walk = rw walk.tells (walked_of_judging (length rs) types rs (binders_of b) 0 1)
