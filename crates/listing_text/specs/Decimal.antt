-- A number in decimal: its ASCII digits, the highest first, with no leading zero; that of 0 is a single one.
use Rattle.std.specs.Prelude.{ℕ, zero, suc, ◌+◌, ◌/◌, ◌%◌, true, false, List, [], ◌∷◌, ◌++◌, ltb}

-- The digit of a number below 10: that of 0 is 48.
abbrev pub digit : ℕ → ℕ
digit n = 48 + n

-- The digits of n, where it has no more than `most`: those of its tens, then that of its ones.
unfoldable pub digits : ℕ → ℕ → List ℕ
digits zero n = []
digits (suc most) n = elim (ltb n 10) [ true ↦ digit n ∷ [] | false ↦ digits most (n / 10) ++ (digit (n % 10) ∷ []) ]

-- n has no more than n + 1 digits.
unfoldable pub decimal : ℕ → List ℕ
decimal n = digits (suc n) n
