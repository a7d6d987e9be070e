-- Demand 3: "one claim about the whole run, from the first term to the last, and not one for each step".
use Rattle.std.specs.Prelude.{ℕ, ◌≤◌, ◌<◌, List, ◌≡◌, ◌⊎◌, T, length}
use Rattle.rules.specs.Editions.{Edition}
use Rattle.rules.specs.Terms.{Term, size, type_of}
use Rattle.rules.specs.Types.{Table}
use Rattle.rules.specs.Values.{value}
use Rattle.rules.specs.Steps.{Event, Step, Steps}
use Rattle.rules.specs.Format.{most_records, table_of}
use Rattle.rules.specs.Links.{first_term, written}
use Rattle.rules.specs.Check.{check_answer, passing}
use Rattle.rules.specs.Run.{Ending, valued, spent, full, Course, output, written_over, accepted, run_answer, run_output}

-- "A term is passed at level 0 when, written in preorder with that table, it keeps every rule of 'The program form' and 'Levels and types', its
-- root at level 0 under no binders; its type is its root's." What is written is that table and that term: they are read back.
pub record Passed (edition : Edition) (types : Table) (t : Term) : Type 0 where
  pub checked : check_answer edition (written types t) ≡ passing (type_of t) (size t)
  pub table_back : table_of (written types t) ≡ types
  pub term_back : first_term (written types t) ≡ t

module _ (types : Table) where
  -- The rules give t exactly one next term, and that one is too large.
  pub record Overfull (t : Term) : Type 0 where
    pub following : Term
    pub event : Event
    pub step : Step types 0 event t following
    pub only : (e : Event) (u : Term) → Step types 0 e t u → (e ≡ event) × (u ≡ following)
    pub large : most_records < size following

  -- "With n steps made: ending value if the term is a value; else spent if n is the fuel; else full."
  abbrev pub Ends : ℕ → Ending → ℕ → Term → Type 0
  Ends fuel valued n t = T (value t)
  Ends fuel spent n t = (¬ T (value t)) × (n ≡ fuel)
  Ends fuel full n t = (¬ T (value t)) × (n < fuel) × Overfull t

  -- P of each term from the first to that after n steps: of each that the rules reach by n steps or fewer, and since a term has one next term at
  -- most (theorem `deterministic`) these are the terms on the way.
  abbrev pub EachTo : Term → ℕ → (Term → Type 0) → Type 0
  EachTo first n P = (es : List Event) (t : Term) → length es ≤ n → Steps types es first t → P t

  -- The rules make steps, with these events, from the first term to the last, within the fuel and 2,048 records.
  pub record Makes (first : Term) (fuel : ℕ) (es : List Event) (last : Term) : Type 0 where
    pub made : Steps types es first last
    pub within : length es ≤ fuel
    pub small : EachTo first (length es) (λ t. size t ≤ most_records)

-- Their number is the largest such count; every term on the way is passed with the first's type; leftover fuel means a value or exactly one
-- next term, too large; and the ending is as document 01 says.
pub record WholeRun (edition : Edition) (types : Table) (first : Term) (fuel : ℕ) (c : Course) : Type 0 where
  pub makes : Makes types first fuel c.trace c.last
  pub largest : (es : List Event) (t : Term) → Makes types first fuel es t → length es ≤ length c.trace
  pub passed : EachTo types first (length c.trace) (λ t. Passed edition types t × (type_of t ≡ type_of first))
  pub stops : length c.trace < fuel → T (value c.last) ⊎ Overfull types c.last
  pub ends : Ends types fuel c.ending (length c.trace) c.last

-- What is claimed of each accepted run, by the definitions that its answer and its output buffer equal: they are those of a whole run, the number of its
-- steps and the total of what gave way in them among the rest, and its last term is written, which is passed and so is read back.
pub record Demand3 (edition : Edition) (program : List ℕ) (fuel : ℕ) (out : List ℕ) (work_length : ℕ) : Type 0 where
  pub course : Course
  pub whole : WholeRun edition (table_of program) (first_term program) fuel course
  pub answers : run_answer edition program fuel (length out) work_length ≡ accepted (table_of program) course
  pub writes : run_output edition program fuel out work_length ≡ written_over out (output (table_of program) course.last)
  pub fits : length (output (table_of program) course.last) ≤ length out
