-- `put_root` and `sibling`: a program's record by its number, read and written. `numbering` for search.
use Prim.Native.Nat.{ℕ}
use mathlib.Core.Path.{◌≡◌, ap, ◌∙◌}
use mathlib.Core.List.{List}
use lib.ListN.{set}
use Rattle.rules.specs.Format.{Record, record_no}
use Rattle.records.specs.declared.Record.{Record as Read}
use Rattle.records.specs.Meant.{record_meant}
use Rattle.records.specs.Places.{IsRecord}
use Rattle.records.specs.View.{records_in, RecordPut}
use Rattle.terms.specs.Loads.{PutsRoot}

module _ (program : List Record) (n : ℕ) (r : Read) (e : IsRecord program n r) where
  pub root_put : (s : List ℕ) (dst : ℕ) (s' : List ℕ) → RecordPut s dst (record_meant r) s' → PutsRoot program n (records_in s) dst (records_in s') r.first
  root_put s dst s' p = record { written = p.things ∙ ap (set (records_in s) dst) e.is; first = ap (λ x. x.first) e.is }

  pub sibling_read : r.next ≡ (record_no program n).next
  sibling_read = ap (λ x. x.next) e.is

pub ruleset numbering = (root_put, sibling_read)
