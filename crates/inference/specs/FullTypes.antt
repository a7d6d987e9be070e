-- Types written out in full: what a number means, whatever the table it is a number of.
use Rattle.std.specs.Prelude.{ℕ, zero, suc, List, map, eqb}
use Rattle.rules.specs.Lists.{pick}
use Rattle.rules.specs.Terms.{Term}
use Rattle.rules.specs.Types.{Entry, Table, entry}
use Rattle.inference.specs.Inference.{types_of}

pub data Full : Type 0 where
  nat : Full
  fn : Full → Full → Full
  code : Full → Full
  cut : Full

-- An entry written out, its parts by `out`.
abbrev pub entry_out : (ℕ → Full) → Entry → Full
entry_out out x =
    pick (eqb x.kind 1) nat
    (pick (eqb x.kind 2) (fn (out x.a) (out x.b))
    (pick (eqb x.kind 3) (code (out x.a)) cut))

-- Type n, to a depth. "Parts are numbers of earlier entries", so that n is deep enough (theorem `full_whole`); `cut` stands for what is deeper, or is
-- no entry.
unfoldable pub full : ℕ → Table → ℕ → Full
full zero types n = cut
full (suc depth) types n = entry_out (full depth types) (entry types n)

-- Nothing of the type is cut: it is written out in full.
unfoldable pub Whole : Full → Type 0
Whole nat = Unit {0}
Whole (fn p q) = Whole p × Whole q
Whole (code c) = Whole c
Whole cut = ⊥

-- The types of a term's records in preorder.
abbrev pub full_types : ℕ → Table → Term → List Full
full_types depth types t = map (full depth types) (types_of t)
