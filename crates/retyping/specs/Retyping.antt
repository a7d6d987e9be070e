-- What is put into the records of a tree whose types are omitted, and what the writing of the typed program asks and does.
use Rattle.std.specs.Prelude.{ℕ, ◌+◌, ◌*◌, ◌≤◌, List, [], ◌∷◌, ◌≡◌, length}
use Rattle.rules.specs.Terms.{Term, size}
use Rattle.rules.specs.Types.{Table}
use Rattle.rules.specs.Typing.{Typed}
use Rattle.rules.specs.Format.{Record, most_types, most_records}
use Rattle.rules.specs.Links.{root_tree}
use Rattle.inference.specs.Inference.{retyped_record, cleared, types_of}
use Rattle.records.specs.View.{entries_in}
use Rattle.terms.specs.Loads.{WellLinked}
use Rattle.writing.specs.Program.{WroteProgram}

-- The records with the types ts, from the first on: all else stays, and so do the records that have no type in ts.
unfoldable pub with_types : List ℕ → List Record → List Record
with_types [] rs = rs
with_types (n ∷ ts) [] = []
with_types (n ∷ ts) (r ∷ rs) = retyped_record n r ∷ with_types ts rs

-- rs' is rs with the types ts.
pub record PutsTypes (rs : List Record) (ts : List ℕ) (rs' : List Record) : Type 0 where
  pub is : rs' ≡ with_types ts rs

-- The types ts make t of the tree of the root of the records rs, whose types are omitted: "clearing its types gives the input's tree back". It keeps the
-- rules of some table, the table that is written is some whole entries, and there is room for t in the records ws and for the program in the bytes s.
pub record TypedFits (rs : List Record) (ts table : List ℕ) (ws : List Record) (s : List ℕ) (t : Term) : Type 0 where
  pub ruled : Table
  pub typed : Typed ruled [] 0 t
  pub back : cleared t ≡ root_tree rs
  pub given : types_of t ≡ ts
  pub linked : WellLinked rs
  pub size_is : size t ≡ length rs
  pub some : 1 ≤ length rs
  pub few : length rs ≤ most_records
  pub entries : length table ≡ 6 * length (entries_in table)
  pub some_types : 1 ≤ length (entries_in table)
  pub few_types : length (entries_in table) ≤ most_types
  pub slots : length rs ≤ length ws
  pub room : 4 + 6 * length (entries_in table) + 16 * length rs ≤ length s

pub record CanWriteTyped (rs : List Record) (ts table : List ℕ) (ws : List Record) (s : List ℕ) : Type 0 where
  pub tree : Term
  pub can : TypedFits rs ts table ws s tree

-- The typed program is written over s, and r is its length: "writes the typed program in preorder".
pub record WritesTyped (rs : List Record) (ts table : List ℕ) (ws : List Record) (s s' : List ℕ) (r : ℕ) : Type 0 where
  pub does : (t : Term) → TypedFits rs ts table ws s t → WroteProgram table s s' t r
