-- What is refused of a program by its length and counts, and by whether its types are given.
use Rattle.std.specs.Prelude.{List, ◌≡◌, ℕ}
use Rattle.std.proofs.Math.Option.{Option, none}
use Rattle.rules.specs.Editions.{Edition}
use Rattle.rules.specs.FieldUses.{TypeFields, given, omitted}
use Rattle.rules.specs.Refusals.{Refusal}
use Rattle.rules.specs.Check.{size_refusal, layout_refusal, refusal}

-- 3, 4 and 5 pass the program.
pub record SizePasses (bytes : List ℕ) : Type 0 where
  pub none_refused : size_refusal bytes ≡ none

-- 3 to 12 where its types are given, and where they are omitted what its layout is refused for.
unfoldable pub refusal_with : TypeFields → Edition → List ℕ → Option Refusal
refusal_with given edition bytes = refusal edition bytes
refusal_with omitted edition bytes = layout_refusal omitted edition bytes
