-- The writer's state, and what the writing of one record asks of it and does to it.
use Rattle.std.specs.Prelude.{ℕ, ◌+◌, ◌^◌, ◌<◌, ◌≡◌, List}
use Rattle.rules.specs.Format.{Record}
use Rattle.writing.specs.declared.Writer.{Writer}
use Rattle.writing.specs.Slots.{CanHead, Heads}

-- The state after one record: the number after its number, and the length with its 16 bytes.
abbrev pub moved_on : Writer → Writer
moved_on state = record { number = state.number + 1; length = state.length + 16 }

-- Record i of ws can be written under the state's number, and the length after it is a number of 64 bits.
pub record CanPutRecord (ws : List Record) (i : ℕ) (s : List ℕ) (state : Writer) : Type 0 where
  pub head : CanHead ws i s state.number
  pub short : state.length + 16 < 2 ^ 64

-- Record i of ws is written under the state's number with the sibling `next` and has `children`, and the state has moved on.
pub record PutsRecord (ws : List Record) (i : ℕ) (s : List ℕ) (state : Writer) (next : ℕ) (s' : List ℕ) (state' : Writer) (children : ℕ) : Type 0 where
  pub head : Heads ws i s state.number next s' children
  pub moved : state' ≡ moved_on state
