-- What the walk asks and answers.
use Rattle.std.specs.Prelude.{ℕ, ◌+◌, ◌*◌, ◌/◌, ◌%◌, ◌≤◌, ◌<◌, ◌≡◌, List, length, eqb, Result, Err}
use Rattle.std.proofs.Math.Option.{Option, none, some}
use Rattle.rules.specs.Lists.{pick}
use Rattle.rules.specs.Kinds.{kind_of}
use Rattle.rules.specs.Terms.{size}
use Rattle.rules.specs.Types.{Table}
use Rattle.rules.specs.Typing.{Env}
use Rattle.rules.specs.Format.{Record, most_records}
use Rattle.rules.specs.Links.{first_of, tree_of}
use Rattle.rules.specs.Refusals.{bad_link, bad_children, bad_index, bad_type, lowest}
use Rattle.rules.specs.Refusals.{Refusal as MeantRefusal}
use Rattle.rules.specs.Check.{links_rule, children_rule, type_no, judged, walked}
use Rattle.records.specs.declared.Record.{Record as Read}
use Rattle.records.specs.Places.{IsRecord, InChain}
use Rattle.kinds.specs.declared.names.Kind.{Kind}
use Rattle.kinds.specs.Named.{kind_meant}
use Rattle.refusals.specs.declared.reasons.Reason.{Reason}
use Rattle.judging.specs.declared.Binders.{Binders}
use Rattle.judging.specs.Stack.{binders_of, capacity, Rebinds}
use Rattle.judging.specs.Tests.{refused_at}
use Rattle.typing.specs.Reading.{CanRead, second_of, third_of, kind_no, fields_no}

-- Record n is judged by what the records say of it and of its children.
unfoldable pub judged_at : Table → List Record → Env → ℕ → ℕ → Option MeantRefusal
judged_at types rs Γ l n = judged types Γ l n (kind_no rs n) (fields_no rs n) (type_no rs (first_of rs n)) (type_no rs (second_of rs n)) (type_no rs (third_of rs n))

-- The children of r can be read, and the binders.
pub record CanReadChildren (rs : List Record) (b : Binders) (r : Read) : Type 0 where
  pub chained : InChain rs r.first
  pub deep : length (binders_of b) ≤ capacity b

-- q is the fault of r, for each record n that is r, where it is of this kind.
pub record JudgesRead (types : Table) (rs : List Record) (Γ : Env) (l : ℕ) (kind : Kind) (r : Read) (q : Result Unit Reason) : Type 0 where
  pub tells : (n : ℕ) → CanRead rs n → IsRecord rs n r → kind_meant kind ≡ kind_of r.kind → refused_at n q ≡ judged_at types rs Γ l n

-- How many records the tree of record n has.
abbrev pub tree_size : List Record → ℕ → ℕ
tree_size rs n = size (tree_of (length rs) rs n)

-- A refusal, if any, is by a number of 10 to 12.
abbrev pub OfJudging : Option MeantRefusal → Type 0
OfJudging none = Unit {0}
OfJudging (some r) = (bad_index ≤ r.number) × (r.number ≤ bad_type)

-- What the walk says in one number: below 65,536 nothing is refused, and it is how many records are left; else it holds a refusal, its number times
-- 65,536 and its place.
unfoldable pub refusal_in : ℕ → Option MeantRefusal
refusal_in q = pick (eqb (q / 65536) 0) none (some (record { number = q / 65536; place = q % 65536 }))

-- q holds the refusal for this reason, at a place.
pub record Packs (reason : Reason) (place q : ℕ) : Type 0 where
  pub holds : refusal_in q ≡ refused_at place (Err reason)
  pub refused : 65536 ≤ q

-- The tree of record n can be walked: 9 passes the records, those left are enough for the tree and no more than a program has, and there is
-- room for two binders of each.
pub record CanWalk (rs : List Record) (b : Binders) (n left : ℕ) : Type 0 where
  pub here : CanRead rs n
  pub chained : lowest (children_rule rs) bad_children 1 (length rs) ≡ none
  pub enough : tree_size rs n ≤ left
  pub most : left ≤ most_records
  pub room : length (binders_of b) + 2 * left ≤ capacity b

-- The refusal is that of the first faulty record in preorder of the tree of record n. Where nothing is refused, the records left after the tree
-- and those of the tree are the records left before it. The binders are left as they were.
pub record Walks (types : Table) (rs : List Record) (b b' : Binders) (level n left q : ℕ) : Type 0 where
  pub tells : refusal_in q ≡ walked (length rs) types rs (binders_of b) level n
  pub counted : q < 65536 → q + tree_size rs n ≡ left
  pub kept : Rebinds b b' (binders_of b)

-- The records of a whole program make one tree: 8 and 9 pass them.
pub record MakeTree (rs : List Record) : Type 0 where
  pub linked : lowest (links_rule rs) bad_link 1 (length rs) ≡ none
  pub chained : lowest (children_rule rs) bad_children 1 (length rs) ≡ none
  pub real : 1 ≤ length rs
  pub most : length rs ≤ most_records
