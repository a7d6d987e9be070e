-- How far the walk of a record has come: its trees so far, what is left, and that the next child's tree can be walked.
use Prim.Native.Nat.{ℕ, zero, suc, ◌+◌, ◌-◌, ◌≤◌, ◌<◌}
use native.Mathlib.Omega.{arith}
use mathlib.Core.Path.{◌≡◌, refl, ap, ◌∙◌}
use mathlib.Core.List.{List}
use mathlib.Core.Option.{none}
use lib.ListN.{length}
use lib.Seq.{length-take-le}
use Rattle.std.specs.Prelude.{Result, Ok}
use Rattle.rules.specs.Types.{Table}
use Rattle.rules.specs.Typing.{Env}
use Rattle.rules.specs.Format.{Record, most_types}
use Rattle.rules.specs.Links.{first_of, next_of}
use Rattle.rules.specs.Refusals.{bad_children, lowest}
use Rattle.rules.specs.Check.{children_rule}
use Rattle.rules.proofs.Tree.{first_le, next_le, chain_size, chain_none}
use Rattle.inference.proofs.Growing.{longer}
use Rattle.refusals.specs.declared.reasons.Refusal.{Refusal}
use Rattle.judging.specs.declared.Binders.{Binders}
use Rattle.judging.specs.Stack.{capacity, Rebinds}
use Rattle.typing.specs.Walking.{tree_size}
use Rattle.typing.proofs.TreeCounts.{tree_then_chain, record_then_chain}
use Rattle.tables.specs.Having.{buffer_of, CanGrow}
use Rattle.filling.specs.declared.Filler.{Filler}
use Rattle.filling.specs.Filling.{size_at, CanInfer, records_of, env_of, table_of, Continues, CanFill, Fills}
use Rattle.filling.proofs.Inferring.{GoesOn, goes_on, infers_on, can_grow}

-- A child's tree, which may be none, then the chain after it.
child_then_chain : (rs : List Record) → lowest (children_rule rs) bad_children 1 (length rs) ≡ none → (n : ℕ) → n ≤ length rs → size_at rs n + chain_size rs (next_of rs n) ≡ chain_size rs n
unfolding size_at
child_then_chain rs chained zero h = omega (arith, chain_none rs)
child_then_chain rs chained (suc n) h = tree_then_chain rs chained (suc n) (omega arith) h

pub size_there : (rs : List Record) (n : ℕ) → (n ≡ 0 → ⊥) → size_at rs n ≡ tree_size rs n
unfolding size_at
size_there rs zero h = absurd (h refl)
size_there rs (suc n) h = refl

pub continues_then : {f g h : Filler} → Continues f g → Continues g h → Continues f h
continues_then a c = record {
  records = c.records ∙ a.records;
  table = c.table ∙ a.table;
  bytes = c.bytes ∙ a.bytes;
  given = c.given ∙ a.given;
  capacity = c.capacity ∙ a.capacity;
  room = c.room ∙ a.room;
  places = c.places ∙ a.places;
}

-- The same under other binders, in as much room.
pub continues_under : {f g : Filler} {b : Binders} → capacity b ≡ capacity g.binders → Continues f g → Continues f (record g { binders = b })
continues_under same a = record { records = a.records; table = a.table; bytes = a.bytes; given = a.given; capacity = same ∙ a.capacity; room = a.room; places = a.places }

-- The walk of record n began at f, and has come to g; the tree of `child` comes next. x is the first child's type, or 0.
pub record Come (f : Filler) (n : ℕ) (g : Filler) (child x : ℕ) : Type 0 where
  pub can : CanFill f n
  pub continues : Continues f g
  pub kept : env_of g ≡ env_of f
  pub few : g.table.now.types ≤ most_types
  pub infers : CanInfer (records_of f) (table_of g) (env_of f)
  pub low : x ≤ g.table.now.types
  pub less : g.left < f.left
  pub within : child ≤ length (records_of f)
  pub counted : g.left + tree_size (records_of f) n ≡ f.left + chain_size (records_of f) child

-- Where record n is entered.
module _ {f : Filler} {n : ℕ} (can : CanFill f n) where
  pub one_left : 1 ≤ f.left
  one_left = omega (arith, can.enough, record_then_chain (records_of f) can.chained n can.here.real can.here.within)

  pub entered : Come f n (record f { left = f.left - 1 }) (first_of (records_of f) n) 0
  entered = record {
    can = can;
    continues = record { records = refl; table = refl; bytes = refl; given = refl; capacity = refl; room = refl; places = refl };
    kept = refl;
    few = can.few;
    infers = can.infers;
    low = omega arith;
    less = omega (arith, one_left);
    within = first_le (records_of f) n;
    counted = omega (arith, one_left, record_then_chain (records_of f) can.chained n can.here.real can.here.within);
  }

module _ {f g : Filler} {n child x : ℕ} (come : Come f n g child x) where
  pub room_two : length (env_of g) + 2 ≤ capacity g.binders
  room_two = omega (arith, come.can.binders, come.continues.capacity, ap length come.kept, one_left come.can)

  -- The table as it is now has so many entries, and room for one more.
  pub long : length (table_of g) ≡ g.table.now.types
  long = length-take-le g.table.now.types (buffer_of g.table.now) (omega (arith, come.few, come.can.table, come.continues.room))

  pub come_grows : CanGrow g.table.now
  come_grows = can_grow come.infers (omega (arith, come.few, come.can.table, come.continues.room)) come.few

  -- The next child's tree can be walked with the records left, under the binders b.
  module _ {b : Binders} {Γ : Env} (bound : Rebinds g.binders b Γ) (few : length Γ ≤ length (env_of f) + 2)
      (over : (A : Table) → CanInfer (records_of f) A (env_of f) → CanInfer (records_of f) A Γ) where
    child_infers : CanInfer (records_of f) (table_of g) Γ
    child_infers = over _ come.infers

    pub come_child : (child ≡ 0 → ⊥) → CanFill (record g { binders = b }) child
    come_child there =
        let size = child_then_chain (records_of f) come.can.chained child come.within in
        let is = size_there (records_of f) child there in
        record {
          here = rw come.continues.records (record { linked = come.can.here.linked; real = omega (arith, there); within = come.within });
          chained = rw come.continues.records come.can.chained;
          enough = rw come.continues.records (omega (arith, come.counted, come.can.enough));
          most = omega (arith, come.less, come.can.most);
          binders = omega (arith, come.less, come.can.binders, come.continues.capacity, bound.room, ap length bound.are);
          table = omega (arith, come.can.table, come.continues.room);
          few = come.few;
          given = omega (arith, come.less, come.can.given, come.continues.places);
          infers = rw (come.continues.records, bound.are) child_infers;
        }

    -- What the walk of the child keeps, whatever comes of it.
    module _ {k : ℕ} {q : Filler} where
      pub still : {o : Result ℕ Refusal} → Fills (record g { binders = b }) q k child o → Continues f q
      still fills = continues_then (continues_under bound.room come.continues) fills.continues

      -- And then the walk has come further.
      module _ {y : ℕ} (fills : Fills (record g { binders = b }) q k child (Ok y)) where
        grows : GoesOn (table_of g) (table_of q) fills.done.term
        grows = goes_on child_infers come.can.chained k child come.within _ _ (rw (come.continues.records, bound.are) at fills.done.is)

        grown : length (table_of q) ≡ q.table.now.types
        grown = length-take-le q.table.now.types (buffer_of q.table.now) (omega (arith, fills.done.few, come.can.table, come.continues.room, fills.continues.room))

        -- The type of this tree, and that of one before it.
        pub come_type : y ≤ q.table.now.types
        come_type = omega (arith, fills.done.type, grows.low, grown)

        pub come_before : x ≤ q.table.now.types
        come_before = omega (arith, come.low, long, longer grows.begins, grown)

        pub come_further : {b' : Binders} (x' : ℕ) → x' ≤ q.table.now.types → Rebinds q.binders b' (env_of f) → Come f n (record q { binders = b' }) (next_of (records_of f) child) x'
        come_further x' low back = record {
          can = come.can;
          continues = continues_under back.room (still fills);
          kept = back.are;
          few = fills.done.few;
          infers = infers_on come.infers grows;
          low = low;
          less = omega (arith, fills.done.counted, come.less);
          within = next_le (records_of f) child;
          counted =
              let size = child_then_chain (records_of f) come.can.chained child come.within in
              let count = rw come.continues.records at fills.done.counted in
              omega (arith, come.counted, count);
        }
