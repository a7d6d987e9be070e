-- What is found is the entry, and what is not is appended.
use Rattle.std.proofs.Common.{refl, arith}
use Rattle.tables.proofs.Lookup.{found_fits, has_found, has_appended}
use Rattle.tables.proofs.Table.have.Goals as goal
use Rattle.tables.proofs.Table.have.Goals.{then-found-self, else-found-self}

pub overflow_add-result : goal.overflow_add-result
overflow_add-result c = record { fits = omega (arith, found_fits _ _ c.requires.table _ c.count_before-found.ensures) }

pub returns : goal.returns
returns c =
    elim c.if-found-self.branch [
      | then-found-self w ↦ rw w.self-is (has_appended _ _ c.requires.table _ c.count_before-found.ensures _ w.if-found-self.true refl refl w.put_entry.ensures)
      | else-found-self w ↦ rw w.self-is (has_found _ _ c.requires.table _ c.count_before-found.ensures w.if-found-self.false)
    ]
