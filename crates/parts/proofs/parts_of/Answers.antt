use Rattle.std.proofs.Common.{refl, rules}
use Rattle.parts.proofs.Parting.{parts_are}
use Rattle.parts.proofs.parts_of.Goals as goal

pub returns : goal.returns
returns c = parts_are c.args.program.now c.requires c.get16-types.result c.get16-types.ensures (λ k. search rules) _ refl refl
