-- What the walk that gives records their types asks and answers.
use Rattle.std.specs.Prelude.{ℕ, zero, suc, ◌+◌, ◌-◌, ◌*◌, ◌≤◌, ◌<◌, ◌≡◌, List, [], ◌++◌, length, set, take, Result, IfOk}
use Rattle.std.proofs.Math.Option.{Option, none, some}
use Rattle.rules.specs.Lists.{All}
use Rattle.rules.specs.Terms.{Term, type_of}
use Rattle.rules.specs.Types.{Table}
use Rattle.rules.specs.Conditions.{Met, Holds}
use Rattle.rules.specs.FieldUses.{is_entry, formed_besides}
use Rattle.rules.specs.Typing.{Env}
use Rattle.rules.specs.Format.{Record, most_types, most_records}
use Rattle.rules.specs.Refusals.{bad_children, lowest}
use Rattle.rules.specs.Refusals.{Refusal as MeantRefusal}
use Rattle.rules.specs.Check.{entry_rule, children_rule}
use Rattle.inference.specs.Inference.{Begins, types_of, Inference, faulty, filled, inferred_from}
use Rattle.records.specs.declared.Record.{Record as Read}
use Rattle.records.specs.View.{records_in}
use Rattle.refusals.specs.declared.reasons.Refusal.{Refusal}
use Rattle.refusals.specs.Reports.{Reports}
use Rattle.judging.specs.Stack.{binders_of, capacity}
use Rattle.typing.specs.Reading.{CanRead, kind_no, fields_no}
use Rattle.typing.specs.Walking.{tree_size, MakeTree}
use Rattle.tables.specs.declared.Table.{Table as TypeTable}
use Rattle.tables.specs.Having.{buffer_of, entries_of}
use Rattle.assigning.specs.Assigning.{CanAssign, Assigns}
use Rattle.filling.specs.declared.Filler.{Filler}

-- The fault of an inference, or none.
unfoldable pub fault_of : Inference → Option MeantRefusal
fault_of (faulty r) = some r
fault_of (filled types t) = none

-- The places of the types before the last `left`.
unfoldable pub firsts : List ℕ → ℕ → List ℕ
firsts gs left = take (length gs - left) gs

-- The types and the records of a child's tree, which has none where there is no child.
unfoldable pub types_at : ℕ → Term → List ℕ
types_at zero t = []
types_at (suc n) t = types_of t

unfoldable pub size_at : List Record → ℕ → ℕ
size_at rs zero = 0
size_at rs (suc n) = tree_size rs (suc n)

-- Inference can go on with the table A under Γ: 6 passes A, which begins with the table that was given, and in that one 7 passes the records, and the
-- binders have their types.
pub record CanInfer (rs : List Record) (A : Table) (Γ : Env) : Type 0 where
  pub first : Table
  pub begins : Begins first A
  pub some : 0 < length A
  pub few : length A ≤ most_types
  pub entries : (n : ℕ) → 1 ≤ n → n < 1 + length A → Holds (entry_rule A n)
  pub fielded : (n : ℕ) → 1 ≤ n → n < 1 + length rs → Holds (formed_besides first (kind_no rs n) (fields_no rs n))
  pub bound : All (λ b. Met (is_entry first b.type)) Γ

-- The records that are filled, the binders where the walk stands, and the table so far.
abbrev pub records_of : Filler → List Record
records_of f = records_in f.records.now

abbrev pub env_of : Filler → Env
env_of f = binders_of f.binders

abbrev pub table_of : Filler → Table
table_of f = entries_of f.table.now

-- f' works on the same records as f, in the same lent table and places, and has as much room.
pub record Continues (f f' : Filler) : Type 0 where
  pub records : f'.records.now ≡ f.records.now
  pub table : f'.table.ghost_name ≡ f.table.ghost_name
  pub bytes : f'.table.now.bytes.ghost_name ≡ f.table.now.bytes.ghost_name
  pub given : f'.given.ghost_name ≡ f.given.ghost_name
  pub capacity : capacity f'.binders ≡ capacity f.binders
  pub room : length (buffer_of f'.table.now) ≡ length (buffer_of f.table.now)
  pub places : length f'.given.now ≡ length f.given.now

-- The tree of record n can be walked: 9 passes the records, those left are enough for the tree and no more than a program has, the stack has room for
-- two binders of each, the table's buffer for a 257th entry, and the types for those left, and inference can go on with the table under the binders.
pub record CanFill (f : Filler) (n : ℕ) : Type 0 where
  pub here : CanRead (records_of f) n
  pub chained : lowest (children_rule (records_of f)) bad_children 1 (length (records_of f)) ≡ none
  pub enough : tree_size (records_of f) n ≤ f.left
  pub most : f.left ≤ most_records
  pub binders : length (env_of f) + 2 * f.left ≤ capacity f.binders
  pub table : most_types < length (buffer_of f.table.now)
  pub few : f.table.now.types ≤ most_types
  pub given : f.left ≤ length f.given.now
  pub infers : CanInfer (records_of f) (table_of f) (env_of f)

-- What inference comes to from f on, at record n, which stands at this level.
abbrev pub inference_at : Filler → ℕ → ℕ → Inference
inference_at f level n = inferred_from (length (records_of f)) (table_of f) (records_of f) (env_of f) level n

-- The tree of record n is filled as the inference o has it, from f to f': the table is that of f', ty is the root's type, the types stand after those
-- that stood before, the tree's records are no longer left, and the binders are those of f.
pub record Filled (f f' : Filler) (n : ℕ) (o : Inference) (ty : ℕ) : Type 0 where
  pub term : Term
  pub is : o ≡ filled (table_of f') term
  pub few : f'.table.now.types ≤ most_types
  pub type : ty ≡ type_of term
  pub types : firsts f'.given.now f'.left ≡ firsts f.given.now f.left ++ types_at n term
  pub counted : f'.left + size_at (records_of f) n ≡ f.left
  pub kept : env_of f' ≡ env_of f

-- r reports the fault of the inference of record n, or it is filled.
pub record Fills (f f' : Filler) (level n : ℕ) (r : Result ℕ Refusal) : Type 0 where
  pub reports : Reports r (fault_of (inference_at f level n))
  pub done : IfOk r (Filled f f' n (inference_at f level n))
  pub continues : Continues f f'

-- Record n, which is r, can be given its type at this place, where its children have these types.
pub record CanSettle (f : Filler) (r : Read) (at : ℕ) (children : List ℕ) : Type 0 where
  pub assigns : CanAssign f.table.now f.binders r children
  pub within : at < length f.given.now

-- It gets its type, which is put at its place, or it is refused.
pub record Settles (f f' : Filler) (level n : ℕ) (r : Read) (at : ℕ) (children : List ℕ) (result : Result ℕ Refusal) : Type 0 where
  pub assigns : Assigns f.table.now f'.table.now (env_of f) level n r children result
  pub given : IfOk result (λ ty. f'.given.now ≡ set f.given.now at ty)
  pub binders : f'.binders ≡ f.binders
  pub left : f'.left ≡ f.left
  pub continues : Continues f f'

-- The records of a whole program make one tree; 6 and 7 pass them; there is room for a 257th entry, and for the types.
pub record CanFillAll (rs : List Record) (t : TypeTable) (gs : List ℕ) : Type 0 where
  pub tree : MakeTree rs
  pub table : most_types < length (buffer_of t)
  pub few : t.types ≤ most_types
  pub given : length gs ≡ length rs
  pub infers : CanInfer rs (entries_of t) []

-- The root's tree is filled as the inference o has it: ty is its type, and gs are its types.
pub record FilledAll (t : TypeTable) (gs : List ℕ) (o : Inference) (ty : ℕ) : Type 0 where
  pub term : Term
  pub is : o ≡ filled (entries_of t) term
  pub few : t.types ≤ most_types
  pub type : ty ≡ type_of term
  pub types : gs ≡ types_of term

-- r reports the fault of the inference of the root, or its tree is filled. The table t becomes t', in the same lent bytes.
pub record FillsAll (rs : List Record) (t t' : TypeTable) (gs : List ℕ) (r : Result ℕ Refusal) : Type 0 where
  pub reports : Reports r (fault_of (inferred_from (length rs) (entries_of t) rs [] 0 1))
  pub done : IfOk r (FilledAll t' gs (inferred_from (length rs) (entries_of t) rs [] 0 1))
  pub same : t'.bytes.ghost_name ≡ t.bytes.ghost_name
  pub room : length (buffer_of t') ≡ length (buffer_of t)
