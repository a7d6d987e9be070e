-- From what can be computed of a case of the bench sheet to what is claimed of it: a passed term has a whole run, and that is what is computed.
use Prim.Native.Nat.{ℕ, ◌≤◌}
use native.Mathlib.Omega.{arith}
use mathlib.Core.List.{List, [], ◌∷◌}
use mathlib.Core.Path.{◌≡◌, ap}
use Rattle.rules.specs.Lists.{All}
use Rattle.rules.specs.Editions.{Edition, HasEveryKind, first_edition}
use Rattle.rules.specs.Terms.{Term, size, type_of}
use Rattle.rules.specs.Types.{Table}
use Rattle.rules.specs.FieldUses.{given}
use Rattle.rules.specs.Typing.{Typed}
use Rattle.rules.specs.Format.{most_records, table_of}
use Rattle.rules.specs.Links.{written, first_term}
use Rattle.rules.specs.Check.{passing, check_answer}
use Rattle.rules.specs.Meets.{Meets}
use Rattle.rules.specs.Run.{course, run}
use Rattle.rules.specs.WholeRun.{Passed, WholeRun}
use Rattle.rules.specs.BenchSheet.{Bench, table, Kept}
use Rattle.rules.proofs.Meaning.{passed_exactly, unlike, root_size}
use Rattle.rules.proofs.Written.{GoodTable, term_passed, layout_table}
use Rattle.rules.proofs.Whole.{whole}

pub passed_by : {edition : Edition} {types : Table} {t : Term} → check_answer edition (written types t) ≡ passing (type_of t) (size t)
    → table_of (written types t) ≡ types → first_term (written types t) ≡ t → Passed edition types t
passed_by c b e = record { checked = c; table_back = b; term_back = e }

-- A passed term keeps the typing rules, and demand 3 holds of its run.
module _ (edition : Edition) (all : HasEveryKind edition) (types : Table) (t : Term) (p : Passed edition types t) where
  meets : Meets edition (written types t)
  meets = (passed_exactly edition (written types t)).0 (ap (λ a. a.number) p.checked)

  pub passed_typed : Typed types [] 0 t
  passed_typed = rw (p.table_back, p.term_back) at meets.typed

  passed_size : size t ≤ most_records
  passed_size = omega (arith, root_size edition (written types t) meets, meets.layout.counts.1.0, ap size p.term_back)

  pub passed_good : GoodTable types
  passed_good = rw p.table_back at (layout_table given edition (written types t) meets.layout)

  pub passed_run : (fuel : ℕ) → WholeRun edition types t fuel (course types fuel t)
  passed_run fuel = whole types edition (unlike types (rw p.table_back at meets.layout.form.entries))
      (λ u h b. term_passed types u passed_good h b edition all) fuel t passed_typed passed_size

-- What is computed of a case.
pub record Computed (b : Bench) : Type 0 where
  pub passed : Passed first_edition table b.first
  pub comes_to : run table b.fuel b.first ≡ b.outcome
  pub counted : size b.outcome.last ≡ b.records

kept : (b : Bench) → Computed b → Kept b
kept b k = record {
  passed = k.passed;
  course = course table b.fuel b.first;
  whole = passed_run first_edition (omega arith) table b.first k.passed b.fuel;
  comes_to = k.comes_to;
  counted = k.counted;
}

pub each_kept : (bs : List Bench) → All Computed bs → All Kept bs
each_kept [] h = tt
each_kept (b ∷ bs) (k, h) = (kept b k, each_kept bs h)
