-- `raised_field`
use mathlib.Core.Path.{◌∙◌}
use Rattle.copies.proofs.RaisedIndices.{named_raised}
use Rattle.copies.proofs.raising.raised_field.Goals as goal

pub returns : goal.returns
returns c = c.raised_index.ensures ∙ named_raised _ _ _ c.args.kind _ _ c.eq.ensures c.eq-2.ensures
