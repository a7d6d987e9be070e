-- Inference can go on from what it comes to: with the grown table, and under the binders of a record. What it wants may follow the table.
use Prim.Native.Nat.{ℕ, zero, suc, ◌≤◌, ◌<◌}
use native.Mathlib.Omega.{arith}
use mathlib.Core.List.{List}
use mathlib.Core.Option.{none}
use mathlib.Core.Path.{◌≡◌, ap, sym, subst}
use lib.ListN.{length, get_or}
use lib.Seq.{length-take-le, get_or-take}
use Rattle.rules.specs.Lists.{All}
use Rattle.rules.specs.Kinds.{number, variable, function, fix, lift, quote, splice, application, Kind, leaf₀, unary₁, binary₂, ternary₃}
use Rattle.rules.specs.Terms.{Fields, Term, type_of}
use Rattle.rules.specs.Binders.{over_first, over_second}
use Rattle.rules.specs.Types.{Table, no_entry}
use Rattle.rules.specs.Conditions.{Met, Holds}
use Rattle.rules.specs.FieldUses.{is_entry, formed_besides}
use Rattle.rules.specs.Typing.{Env, under}
use Rattle.rules.specs.Format.{Record, most_types}
use Rattle.rules.specs.Links.{tree_of}
use Rattle.rules.specs.Refusals.{bad_children, lowest}
use Rattle.rules.specs.Check.{children_rule}
use Rattle.rules.proofs.Tests.{holds_lowest}
use Rattle.rules.proofs.Written.{GoodTable}
use Rattle.inference.specs.Inference.{Begins, wanted, filled, inferred_from}
use Rattle.inference.proofs.Outcomes.{Fills, fills_some}
use Rattle.inference.proofs.Growing.{begins_itself, begins_then, longer, follows}
use Rattle.inference.proofs.Sound.{Sound, sound, env_under, binds₁_in, binds₃_in}
use Rattle.inference.proofs.ByLinks.{placeless_fills, inferred_by_links, tree_formed}
use Rattle.inference.proofs.Generations.{inferred_nothing}
use Rattle.typing.specs.Reading.{kind_no, fields_no}
use Rattle.tables.specs.declared.Table.{Table as TypeTable}
use Rattle.tables.specs.Having.{buffer_of, entries_of, CanGrow}
use Rattle.assigning.specs.Assigning.{MayFollow}
use Rattle.filling.specs.Filling.{CanInfer}

-- What a record binds over its children are entries.
first_in : (A : Table) (k : Kind) (f : Fields) → Holds (formed_besides A k f) → All (λ n. Met (is_entry A n)) (over_first k f)
first_in A (leaf₀ k) f h = tt
first_in A (unary₁ k) f h = binds₁_in A k f h
first_in A (binary₂ k) f h = tt
first_in A (ternary₃ k) f h = tt

second_in : (A : Table) (k : Kind) (f : Fields) → Holds (formed_besides A k f) → All (λ n. Met (is_entry A n)) (over_second k f)
second_in A (leaf₀ k) f h = tt
second_in A (unary₁ k) f h = tt
second_in A (binary₂ k) f h = tt
second_in A (ternary₃ k) f h = binds₃_in A k f h

-- What is wanted for a record whose first child's type is x.
wanted_parts : (first A : Table) (Γ : Env) (k : Kind) (f : Fields) (x y : ℕ) → length first ≤ length A → Holds (formed_besides first k f) → x ≤ length A
    → MayFollow (length A) (wanted A Γ k f x y)
unfolding MayFollow
wanted_parts first A Γ (leaf₀ number) f x y l o h = record { a = omega arith; b = omega arith }
wanted_parts first A Γ (leaf₀ variable) f x y l o h = tt
wanted_parts first A Γ (unary₁ function) f x y l o h = record { a = omega (arith, o.0.1); b = h }
wanted_parts first A Γ (unary₁ fix) f x y l o h = tt
wanted_parts first A Γ (unary₁ lift) f x y l o h = record { a = h; b = omega arith }
wanted_parts first A Γ (unary₁ quote) f x y l o h = record { a = h; b = omega arith }
wanted_parts first A Γ (unary₁ splice) f x y l o h = tt
wanted_parts first A Γ (binary₂ application) f x y l o h = tt
wanted_parts first A Γ (ternary₃ k) f x y l o h = tt

-- The table goes on from A, and has t's type, if that is one.
pub record GoesOn (A B : Table) (t : Term) : Type 0 where
  pub begins : Begins A B
  pub table : GoodTable B
  pub low : type_of t ≤ length B

module _ {rs : List Record} {A : Table} {Γ : Env} (can : CanInfer rs A Γ) where
  good : GoodTable A
  good = record { some = can.some; few = can.few; entries = can.entries }

  -- The inference of a tree, which may be none.
  module _ (chained : lowest (children_rule rs) bad_children 1 (length rs) ≡ none) (l : ℕ) where
    tree_goes_on : (n : ℕ) → n ≤ length rs → Fills (GoesOn A) (inferred_from (length rs) A rs Γ l n)
    tree_goes_on zero b = rw (inferred_nothing rs (length rs) A Γ l) (record { begins = begins_itself A; table = good; low = omega arith })
    tree_goes_on (suc m) b =
        let n = suc m in
        let rule = holds_lowest (children_rule rs) bad_children 1 (length rs) chained in
        let t = tree_of (length rs) rs n in
        let P : Table → Term → Type 0 = Sound can.first A Γ l t in
        fills_some P (GoesOn A) (inferred_from (length rs) A rs Γ l n) (λ B u s. record { begins = s.begins; table = s.table; low = s.low })
        (placeless_fills P (inferred_from (length rs) A rs Γ l n)
        (subst (Fills P) (sym (inferred_by_links rs rule (length rs) n A Γ l (omega arith) b (omega arith)))
        (sound can.first t Γ l (tree_formed rs rule can.first can.fielded (length rs) n (omega arith) b (omega arith)) can.bound A good can.begins)))

    pub goes_on : (n : ℕ) → n ≤ length rs → (B : Table) (t : Term) → inferred_from (length rs) A rs Γ l n ≡ filled B t → GoesOn A B t
    goes_on n b B t e = subst (Fills (GoesOn A)) e (tree_goes_on n b)

  pub infers_on : {B : Table} {t : Term} → GoesOn A B t → CanInfer rs B Γ
  infers_on g = record {
    first = can.first;
    begins = begins_then can.begins g.begins;
    some = g.table.some;
    few = g.table.few;
    entries = g.table.entries;
    fielded = can.fielded;
    bound = can.bound;
  }

  infers_under : (l : ℕ) (ns : List ℕ) → All (λ n. Met (is_entry can.first n)) ns → CanInfer rs A (under l ns Γ)
  infers_under l ns h = record {
    first = can.first;
    begins = can.begins;
    some = can.some;
    few = can.few;
    entries = can.entries;
    fielded = can.fielded;
    bound = env_under can.first l ns Γ h can.bound;
  }

  -- Record n.
  module _ (n : ℕ) (real : 1 ≤ n) (within : n ≤ length rs) where
    pub infers_first : (l : ℕ) → CanInfer rs A (under l (over_first (kind_no rs n) (fields_no rs n)) Γ)
    infers_first l = infers_under l (over_first (kind_no rs n) (fields_no rs n)) (first_in can.first (kind_no rs n) (fields_no rs n) (can.fielded n real (omega arith)))

    pub infers_second : CanInfer rs A (under 0 (over_second (kind_no rs n) (fields_no rs n)) Γ)
    infers_second = infers_under 0 (over_second (kind_no rs n) (fields_no rs n)) (second_in can.first (kind_no rs n) (fields_no rs n) (can.fielded n real (omega arith)))

    pub wanted_follows : (x y : ℕ) → x ≤ length A → MayFollow (length A) (wanted A Γ (kind_no rs n) (fields_no rs n) x y)
    wanted_follows x y h = wanted_parts can.first A Γ (kind_no rs n) (fields_no rs n) x y (longer can.begins) (can.fielded n real (omega arith)) h

-- A table whose buffer has room for more.
pub can_grow : {rs : List Record} {t : TypeTable} {Γ : Env} → CanInfer rs (entries_of t) Γ → t.types < length (buffer_of t) → t.types ≤ most_types → CanGrow t
can_grow {rs} {t} can room few = record {
  room = room;
  few = few;
  earlier = λ n h.
      let long = length-take-le t.types (buffer_of t) (omega arith) in
      let (_, p, q) = follows n (get_or (entries_of t) n no_entry) (can.entries (suc n) (omega arith) (omega arith)).1 in
      let e = get_or-take t.types (buffer_of t) n no_entry h in
      record { a = omega (arith, p, ap (λ x. x.a) e); b = omega (arith, q, ap (λ x. x.b) e) };
}
