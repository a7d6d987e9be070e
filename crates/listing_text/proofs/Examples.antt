-- The two texts that document 01 prints, K1's and `refused 3 0`, and numbers at the ends of their range: by computing. Assumes nothing.
use mathlib.Core.Path.{◌≡◌, refl}
use mathlib.Core.List.{List, [], ◌∷◌}
use Prim.Native.Nat.{ℕ}
use Rattle.rules.specs.Lists.{joined}
use Rattle.rules.specs.Terms.{size, type_of}
use Rattle.rules.specs.Indices.{changed, raised, replaced, summed, gave_way}
use Rattle.rules.specs.Values.{value}
use Rattle.rules.specs.Next.{waits, next}
use Rattle.rules.specs.Links.{laid}
use Rattle.rules.specs.Run.{Outcome, ending_number, course, run}
use Rattle.rules.specs.BenchSheet.{table, num, identity, app}
use Rattle.listing_text.specs.Decimal.{digits, decimal}
use Rattle.listing_text.specs.Text.{spaced, numbers, line, ending_word, refused_text, record_lines, accepted_text}

-- The text of a run's outcome, whose last term is written in preorder.
abbrev pub outcome_text : Outcome → List ℕ
outcome_text o = accepted_text (ending_number o.ending) o.steps (type_of o.last) (laid 1 0 o.last)

-- value 1 1 1
-- 1 1 1 0 0 0 0 42
abbrev pub k1_text : List ℕ
k1_text =
    118 ∷ 97 ∷ 108 ∷ 117 ∷ 101 ∷ 32 ∷ 49 ∷ 32 ∷ 49 ∷ 32 ∷ 49 ∷ 10
    ∷ 49 ∷ 32 ∷ 49 ∷ 32 ∷ 49 ∷ 32 ∷ 48 ∷ 32 ∷ 48 ∷ 32 ∷ 48 ∷ 32 ∷ 48 ∷ 32 ∷ 52 ∷ 50 ∷ 10 ∷ []

-- "K1. (function Nat: 0) 42, fuel 5." "K1 prints, whole:" that text.
pub k1_prints : outcome_text (run table 5 (app 1 identity (num 42))) ≡ k1_text
unfolding course value waits next replaced summed gave_way changed raised size laid joined digits decimal spaced numbers line ending_word record_lines accepted_text
k1_prints = refl

-- "Fuel cut short is `refused 3 0`."
pub refused_prints : refused_text 3 0 ≡ 114 ∷ 101 ∷ 102 ∷ 117 ∷ 115 ∷ 101 ∷ 100 ∷ 32 ∷ 51 ∷ 32 ∷ 48 ∷ 10 ∷ []
unfolding joined digits decimal spaced numbers line
refused_prints = refl

pub decimal_least : decimal 0 ≡ 48 ∷ []
unfolding digits decimal
decimal_least = refl

pub decimal_most : decimal 4294967295 ≡ 52 ∷ 50 ∷ 57 ∷ 52 ∷ 57 ∷ 54 ∷ 55 ∷ 50 ∷ 57 ∷ 53 ∷ []
unfolding digits decimal
decimal_most = refl
