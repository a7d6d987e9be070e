-- The numbers of matches are those above a splice's.
use mathlib.Core.Path.{ap}
use Rattle.kinds.proofs.Named.{match_numbered}
use Rattle.rules.specs.Format.{Record}
use Rattle.terms.proofs.measuring.is_match_at.Goals as goal

pub returns : goal.returns
returns c = let e = ap (λ (r : Record). r.kind) c.get-r.ensures in record { is = rw (c.number.ensures, e) (match_numbered _ c.requires.known) }
