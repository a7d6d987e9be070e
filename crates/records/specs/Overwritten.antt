-- A list of bytes with other bytes written over a part of it.
use Rattle.std.specs.Prelude.{ℕ, ◌+◌, List, ◌++◌, length, take, drop}

-- `s` with `vs` in place of what stood from place `at` on.
unfoldable pub overwritten : List ℕ → ℕ → List ℕ → List ℕ
overwritten s at vs = take at s ++ (vs ++ drop (at + length vs) s)
