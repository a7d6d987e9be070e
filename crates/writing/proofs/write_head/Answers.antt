-- The record that is read is written with the link that its children ask for.
use Rattle.std.proofs.Common.{ap, ◌∙◌}
use Rattle.rules.specs.Kinds.{child_count}
use Rattle.writing.proofs.Slots.{heads}
use Rattle.writing.proofs.write_head.Goals as goal

pub returns : goal.returns
returns c = heads _ _ _ _ _ _ _ _ c.get-r.result c.put.ensures c.get-r.ensures (c.children-children.ensures ∙ ap child_count c.of.ensures) c.link.ensures
