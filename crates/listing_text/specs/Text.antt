-- The text of a listing, from document 01's paragraph on the listing program. As in the text that it prints for K1, numbers are decimal, one space
-- stands between, and a newline ends each line, also the last.
use Rattle.std.specs.Prelude.{ℕ, suc, List, [], ◌∷◌, ◌++◌, eqb, length}
use Rattle.rules.specs.Lists.{pick, joined}
use Rattle.rules.specs.Format.{Record}
use Rattle.listing_text.specs.Decimal.{decimal}

abbrev pub space : ℕ
space = 32

abbrev pub newline : ℕ
newline = 10

-- A line: a word, numbers with a space before each, and a newline.
unfoldable pub spaced : ℕ → List ℕ
spaced n = space ∷ decimal n

unfoldable pub numbers : List ℕ → List ℕ
numbers ns = joined spaced ns ++ (newline ∷ [])

unfoldable pub line : List ℕ → List ℕ → List ℕ
line word ns = word ++ numbers ns

-- The words `refused`, `value`, `spent` and `full`.
abbrev pub refused_word : List ℕ
refused_word = 114 ∷ 101 ∷ 102 ∷ 117 ∷ 115 ∷ 101 ∷ 100 ∷ []

abbrev pub value_word : List ℕ
value_word = 118 ∷ 97 ∷ 108 ∷ 117 ∷ 101 ∷ []

abbrev pub spent_word : List ℕ
spent_word = 115 ∷ 112 ∷ 101 ∷ 110 ∷ 116 ∷ []

abbrev pub full_word : List ℕ
full_word = 102 ∷ 117 ∷ 108 ∷ 108 ∷ []

-- "The ending's word (`value`, `spent`, `full`)": of the endings 1, 2 and 3.
unfoldable pub ending_word : ℕ → List ℕ
ending_word ending = pick (eqb ending 1) value_word (pick (eqb ending 2) spent_word full_word)

-- "Its first line holds .. `refused`, number, place."
abbrev pub refused_text : ℕ → ℕ → List ℕ
refused_text number place = line refused_word (number ∷ place ∷ [])

-- "Its first line holds the ending's word .., steps, root type and records": how many there are.
abbrev pub first_line : ℕ → ℕ → ℕ → ℕ → List ℕ
first_line ending steps type count = line (ending_word ending) (steps ∷ type ∷ count ∷ [])

-- "Each record line has number, kind, type, a, b, first, next, value."
abbrev pub record_line : ℕ → Record → List ℕ
record_line n r = line (decimal n) (r.kind ∷ r.fields.type ∷ r.fields.a ∷ r.fields.b ∷ r.first ∷ r.next ∷ r.fields.value ∷ [])

-- The lines of records that are numbered from `from` on.
unfoldable pub record_lines : ℕ → List Record → List ℕ
record_lines from [] = []
record_lines from (r ∷ rs) = record_line from r ++ record_lines (suc from) rs

-- The first line, and the records' lines, numbered from 1.
unfoldable pub accepted_text : ℕ → ℕ → ℕ → List Record → List ℕ
accepted_text ending steps type rs = first_line ending steps type (length rs) ++ record_lines 1 rs
