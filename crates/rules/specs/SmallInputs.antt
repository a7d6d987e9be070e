-- The small inputs of document 01's table of refusals, and further ones that show places, order and limits.
use Rattle.std.specs.Prelude.{ℕ, List, [], ◌∷◌, ◌≡◌, take}
use Rattle.rules.specs.Editions.{first_edition}
use Rattle.rules.specs.Types.{Nat, Fn, Code}
use Rattle.rules.specs.Format.{Record, program_bytes}
use Rattle.rules.specs.Check.{failing, check_answer}
use Rattle.rules.specs.Run.{refused, output_needed, work_needed, run_answer}

-- Lengths of the output and the work buffer, and the refusal, at place 0.
pub record Lengths : Type 0 where
  pub out : ℕ
  pub work : ℕ
  pub number : ℕ

abbrev lengths : ℕ → ℕ → ℕ → Lengths
lengths out work number = record { out = out; work = work; number = number }

-- "34,307", "65,535"; and both.
abbrev pub short_buffers : List Lengths
short_buffers = lengths 34307 65536 1 ∷ lengths 34308 65535 2 ∷ lengths 34307 65535 1 ∷ []

-- Run refuses any program so, with any fuel.
abbrev pub BuffersRefused : Lengths → Type 0
BuffersRefused x = (program : List ℕ) (fuel : ℕ) → run_answer first_edition program fuel x.out x.work ≡ refused x.number 0

-- A program and its refusal.
pub record Small : Type 0 where
  pub program : List ℕ
  pub number : ℕ
  pub place : ℕ

abbrev small : List ℕ → ℕ → ℕ → Small
small program number place = record { program = program; number = number; place = place }

-- kind, type, a, first, next and value; b is 0
abbrev rec : ℕ → ℕ → ℕ → ℕ → ℕ → ℕ → Record
rec k t a first next v = record { kind = k; fields = record { type = t; a = a; b = 0; value = v }; first = first; next = next }

abbrev good : List ℕ
good = program_bytes (Nat ∷ []) (rec 1 1 0 0 0 42 ∷ [])

abbrev pub small_programs : List Small
small_programs =
    -- "3 bytes"
    small (1 ∷ 0 ∷ 1 ∷ []) 3 0
    -- "T 257, R 1"; T 0, R 0, and R 2,049
    ∷ small (1 ∷ 1 ∷ 1 ∷ 0 ∷ []) 4 0
    ∷ small (0 ∷ 0 ∷ 1 ∷ 0 ∷ []) 4 0
    ∷ small (1 ∷ 0 ∷ 0 ∷ 0 ∷ []) 4 0
    ∷ small (1 ∷ 0 ∷ 1 ∷ 8 ∷ []) 4 0
    -- "T 1, R 1, 25 bytes"
    ∷ small (take 25 good) 5 0
    -- "Nat twice"; an entry that names itself, 0, or a later one
    ∷ small (program_bytes (Nat ∷ Nat ∷ []) (rec 1 1 0 0 0 42 ∷ [])) 6 2
    ∷ small (program_bytes (Nat ∷ Code 2 ∷ []) (rec 1 1 0 0 0 42 ∷ [])) 6 2
    ∷ small (program_bytes (Nat ∷ Code 0 ∷ []) (rec 1 1 0 0 0 42 ∷ [])) 6 2
    ∷ small (program_bytes (Nat ∷ Code 3 ∷ Code 1 ∷ []) (rec 1 1 0 0 0 42 ∷ [])) 6 2
    ∷ small (program_bytes (Nat ∷ Fn 1 2 ∷ []) (rec 1 1 0 0 0 42 ∷ [])) 6 2
    ∷ small (program_bytes (Nat ∷ Fn 0 1 ∷ []) (rec 1 1 0 0 0 42 ∷ [])) 6 2
    ∷ small (program_bytes (Nat ∷ Fn 1 3 ∷ Code 1 ∷ []) (rec 1 1 0 0 0 42 ∷ [])) 6 2
    -- "kind 15"
    ∷ small (program_bytes (Nat ∷ []) (rec 15 1 0 0 0 0 ∷ [])) 7 1
    -- "root with next 1"
    ∷ small (program_bytes (Nat ∷ []) (rec 1 1 0 0 1 42 ∷ [])) 8 1
    -- "application, one child"
    ∷ small (program_bytes (Nat ∷ Fn 1 1 ∷ []) (rec 4 1 0 2 0 0 ∷ rec 1 1 0 0 0 42 ∷ [])) 9 1
    -- "lone variable 0"
    ∷ small (program_bytes (Nat ∷ []) (rec 2 1 0 0 0 0 ∷ [])) 10 1
    -- "splice of a quote as root"
    ∷ small (program_bytes (Nat ∷ Code 1 ∷ []) (rec 8 1 0 2 0 0 ∷ rec 7 2 0 3 0 0 ∷ rec 1 1 0 0 0 5 ∷ [])) 11 1
    -- "number typed Fn"
    ∷ small (program_bytes (Nat ∷ Fn 1 1 ∷ []) (rec 1 2 0 0 0 42 ∷ [])) 12 1
    -- an application whose argument is record 3, and whose function's body is record 4, each a number typed Fn: record 4 is the first in preorder
    ∷ small (program_bytes (Nat ∷ Fn 1 1 ∷ Fn 1 2 ∷ Fn 2 2 ∷ []) (rec 4 2 0 2 0 0 ∷ rec 3 4 2 4 3 0 ∷ rec 1 2 0 0 0 1 ∷ rec 1 2 0 0 0 2 ∷ [])) 12 4
    -- a record that is named twice
    ∷ small (program_bytes (Nat ∷ Fn 1 1 ∷ []) (rec 4 1 0 2 0 0 ∷ rec 3 2 1 3 3 0 ∷ rec 1 1 0 0 0 7 ∷ [])) 8 3
    -- a bad link in record 1 and a bad kind in record 2: 7 is looked at first
    ∷ small (program_bytes (Nat ∷ []) (rec 4 1 0 2 1 0 ∷ rec 15 1 0 0 0 0 ∷ [])) 7 2
    -- an application of a number's type, whose first child is a variable with no binder: a record is judged before its children
    ∷ small (program_bytes (Nat ∷ []) (rec 4 1 0 2 0 0 ∷ rec 2 1 0 0 3 0 ∷ rec 1 1 0 0 0 5 ∷ [])) 12 1
    ∷ []

-- Check and run refuse it so, its other fields 0; run with any fuel, where the buffers are long enough.
pub record ProgramRefused (x : Small) : Type 0 where
  pub check : check_answer first_edition x.program ≡ failing x.number x.place
  pub run : (fuel : ℕ) → run_answer first_edition x.program fuel output_needed work_needed ≡ refused x.number x.place
