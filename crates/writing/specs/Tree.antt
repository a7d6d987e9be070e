-- What the writing of one tree asks and does.
use Rattle.std.specs.Prelude.{ℕ, ◌+◌, ◌-◌, ◌*◌, ◌^◌, ◌≤◌, ◌<◌, ◌≡◌, List, length}
use Rattle.rules.specs.Terms.{Term, size}
use Rattle.rules.specs.Format.{Record}
use Rattle.rules.specs.Links.{laid}
use Rattle.records.specs.View.{records_in}
use Rattle.terms.specs.Preorder.{At}
use Rattle.writing.specs.declared.Writer.{Writer}
use Rattle.writing.specs.Slots.{Filled}

-- The tree t stands at i, and the bytes s have room for its records from the state's number on.
pub record Writable (ws : List Record) (i : ℕ) (s : List ℕ) (state : Writer) (t : Term) : Type 0 where
  pub there : At ws i t
  pub counted : 1 ≤ state.number
  pub few : state.number + size t ≤ 4096
  pub room : state.number - 1 + size t ≤ length (records_in s)
  pub short : state.length + 16 * size t < 2 ^ 64

pub record CanWrite (ws : List Record) (i : ℕ) (s : List ℕ) (state : Writer) : Type 0 where
  pub tree : Term
  pub can : Writable ws i s state tree

-- t is written from the state's number on, its root with the sibling `next`; r is the state after its records.
pub record WroteTree (s s' : List ℕ) (state : Writer) (next : ℕ) (t : Term) (r : Writer) : Type 0 where
  pub filled : Filled s (state.number - 1) (laid state.number next t) s'
  pub number : r.number ≡ state.number + size t
  pub long : r.length ≡ state.length + 16 * size t

pub record Writes (ws : List Record) (i : ℕ) (s s' : List ℕ) (state : Writer) (next : ℕ) (r : Writer) : Type 0 where
  pub does : (t : Term) → Writable ws i s state t → WroteTree s s' state next t r
