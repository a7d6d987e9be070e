-- What the texts ask of the caller's buffer, 64 bytes for each line, and what stands in it after.
use Rattle.std.specs.Prelude.{ℕ, ◌+◌, ◌*◌, ◌≤◌, List, ◌++◌, ◌≡◌, length, drop}
use Rattle.rules.specs.Format.{Record}
use Rattle.rules.specs.Format.{most_records}

-- There is room for the lines of `count` records from place `at` on.
pub record RoomForRecords (rs : List Record) (count : ℕ) (s : List ℕ) (at : ℕ) : Type 0 where
  pub counts : count ≡ length rs
  pub few : count ≤ most_records
  pub room : at + 64 * count ≤ length s

-- There is room for a refusal's one line.
pub record OneLine (s : List ℕ) : Type 0 where
  pub room : 64 ≤ length s

-- The ending has a word, and there is room for the first line and the records'.
pub record Listable (ending : ℕ) (rs : List Record) (s : List ℕ) : Type 0 where
  pub some : 1 ≤ ending
  pub known : ending ≤ 3
  pub few : length rs ≤ most_records
  pub room : 64 * (1 + length rs) ≤ length s

-- s' is s with `text` at its front, `count` bytes long; the bytes behind it are those of s.
pub record Prints (s text s' : List ℕ) (count : ℕ) : Type 0 where
  pub fits : count ≤ length s
  pub counts : count ≡ length text
  pub bytes : s' ≡ text ++ drop (length text) s
