-- Rules as lists of conditions. What a rule says and the test for it are both read off the one list. Nothing here is of document 01.
use Rattle.std.specs.Prelude.{ℕ, suc, ◌≤◌, ◌<◌, List, [], ◌∷◌, Bool, true, ◌&&◌, ◌≡◌, ltb, leb, eqb}
use Rattle.rules.specs.Types.{Entry}

-- `below m n`: m is below n. `between m x n`: x is m to n. `equal`: the same number. `same`: the same entry.
pub data Condition : Type 0 where
  anything : Condition
  below equal : ℕ → ℕ → Condition
  between : ℕ → ℕ → ℕ → Condition
  same : Entry → Entry → Condition

abbrev pub Met : Condition → Type 0
Met anything = Unit {0}
Met (below m n) = m < n
Met (between m x n) = (m ≤ x) × (x ≤ n)
Met (equal m n) = m ≡ n
Met (same x y) = x ≡ y

abbrev pub same_entry : Entry → Entry → Bool
same_entry x y = eqb x.kind y.kind && (eqb x.a y.a && eqb x.b y.b)

abbrev pub met : Condition → Bool
met anything = true
met (below m n) = ltb m n
met (between m x n) = leb m x && leb x n
met (equal m n) = eqb m n
met (same x y) = same_entry x y

abbrev pub Rule : Type 0
Rule = List Condition

abbrev pub Holds : Rule → Type 0
Holds [] = Unit {0}
Holds (c ∷ r) = Met c × Holds r

abbrev pub holds : Rule → Bool
holds [] = true
holds (c ∷ r) = met c && holds r

-- n is at least m.
abbrev pub at_least : ℕ → ℕ → Condition
at_least m n = below m (suc n)
