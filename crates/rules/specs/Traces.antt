-- What is read off the events of a run's steps.
use Rattle.std.specs.Prelude.{ℕ, ◌+◌, List, [], ◌∷◌}
use Rattle.rules.specs.Steps.{Event}

-- What f tells of each event, added up.
unfoldable pub total_of : (Event → ℕ) → List Event → ℕ
total_of f [] = 0
total_of f (e ∷ es) = f e + total_of f es

-- "Each replacement shall return how many variable records gave way, and every caller up to run shall add them, so the result carries the total for
-- all its steps." (Document 02, N2. What gives way in a step is told by its rule, `Contractions.Contraction`.)
abbrev pub replaced_total : List Event → ℕ
replaced_total es = total_of (λ e. e.replaced) es
