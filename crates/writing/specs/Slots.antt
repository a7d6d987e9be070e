-- Records that are written into the slots of a buffer of bytes, and the one that a tree's root gets.
use Rattle.std.specs.Prelude.{ℕ, ◌+◌, ◌-◌, ◌*◌, ◌≤◌, ◌<◌, ◌≡◌, List, eqb, length, get_or, drop}
use Rattle.rules.specs.Lists.{pick}
use Rattle.rules.specs.Kinds.{child_count, kind_of}
use Rattle.rules.specs.Format.{Record, no_record}
use Rattle.records.specs.View.{records_in, RecordPut}
use Rattle.terms.specs.Preorder.{puts}

-- s' is what the records vs, written from slot k on, make of the bytes s: every other slot stays, and so do the bytes after them.
pub record Filled (s : List ℕ) (k : ℕ) (vs : List Record) (s' : List ℕ) : Type 0 where
  pub slots : records_in s' ≡ puts (records_in s) k vs
  pub beyond : drop (16 * (k + length vs)) s' ≡ drop (16 * (k + length vs)) s

-- The link to a record n of which there are `count`: 0 where there is none.
unfoldable pub link_to : ℕ → ℕ → ℕ
link_to count n = pick (eqb count 0) 0 n

-- A record of a term as record n with the sibling `next`: its first child, if it has one, is written next.
unfoldable pub headed : Record → ℕ → ℕ → Record
headed r n next = record { kind = r.kind; fields = r.fields; first = link_to (child_count (kind_of r.kind)) (n + 1); next = next }

-- Record i of ws can be written as record n, and n + 1 is a number of 16 bits.
pub record CanHead (ws : List Record) (i : ℕ) (s : List ℕ) (n : ℕ) : Type 0 where
  pub read : i < length ws
  pub counted : 1 ≤ n
  pub slot : n ≤ length (records_in s)
  pub few : n < 65535

-- Record i of ws is written as record n with the sibling `next`, and has `children`.
pub record Heads (ws : List Record) (i : ℕ) (s : List ℕ) (n next : ℕ) (s' : List ℕ) (children : ℕ) : Type 0 where
  pub put : RecordPut s (n - 1) (headed (get_or ws i no_record) n next) s'
  pub count : children ≡ child_count (kind_of (get_or ws i no_record).kind)
