-- What the writing of a program in order of use asks and does. Document 02, N4: "A written table now has only types that the written records or their
-- parts need."
use Rattle.std.specs.Prelude.{ℕ, ◌+◌, ◌*◌, ◌≤◌, List, [], ◌≡◌, length}
use Rattle.rules.specs.Lists.{All}
use Rattle.rules.specs.Terms.{Term, type_of, size}
use Rattle.rules.specs.Format.{Record}
use Rattle.order.specs.FullTypes.{NamesType, GoodEntries}
use Rattle.order.specs.Order.{types_named, written_term}
use Rattle.rules.specs.Run.{written_over}
use Rattle.order.specs.RunInOrder.{output_in_order}
use Rattle.records.specs.View.{entries_in}
use Rattle.writing.specs.Program.{ProgramFits}
use Rattle.numbering.specs.declared.Ordered.{Ordered}
use Rattle.numbering.specs.Numbering.{Numbering}

-- The records are those of the term t, the types that it names are entries of a good table, and there is room.
pub record OrderFits (table : List ℕ) (rs : List Record) (s : List ℕ) (t : Term) : Type 0 where
  pub good : GoodEntries (entries_in table)
  pub named : All (NamesType (entries_in table)) (types_named t)
  pub fits : ProgramFits table rs s t

pub record CanWriteInOrder (table : List ℕ) (rs : List Record) (s : List ℕ) : Type 0 where
  pub tree : Term
  pub can : OrderFits table rs s tree

-- The same, with an array in which no type has a number, and room for the table.
pub record CanWriteWith (table : List ℕ) (rs : List Record) (new ordered s : List ℕ) : Type 0 where
  pub fits : CanWriteInOrder table rs s
  pub numbering : Numbering (entries_in table) new 0 []
  pub room : length table ≤ length ordered

-- The table in order of use and t with its numbers are written over s as a program; r is its length, and the type of its root.
pub record WroteInOrder (table s s' : List ℕ) (t : Term) (r : Ordered) : Type 0 where
  pub bytes : s' ≡ written_over s (output_in_order (entries_in table) t)
  pub end : r.length ≡ length (output_in_order (entries_in table) t)
  pub root : r.root ≡ type_of (written_term (entries_in table) t)
  pub short : r.length ≤ 4 + 6 * length (entries_in table) + 16 * size t

pub record WritesInOrder (table : List ℕ) (rs : List Record) (s s' : List ℕ) (r : Ordered) : Type 0 where
  pub does : (t : Term) → OrderFits table rs s t → WroteInOrder table s s' t r
