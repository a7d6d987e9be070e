-- It is the walk from the root.
use Rattle.std.proofs.Common.{arith, ℕ, ◌∙◌}
use lib.ListN.{length-replicate}
use Rattle.typing.proofs.WalkLaws.{root_asked, root_of_judging}
use Rattle.typing.proofs.root_refusal.Goals as goal

pub walk-requires : goal.walk-requires
walk-requires g c = rw c.record_count-count.ensures (root_asked _ _ c.requires.whole c.none-binders.ensures.none (omega (arith, c.requires.room, c.none-binders.ensures.room, length-replicate {A = ℕ})))

pub verdict_in-requires : goal.verdict_in-requires
verdict_in-requires g c = root_of_judging _ _ _ _ _ _ c.walk.ensures

pub returns : goal.returns
returns g c = rw (← c.none-binders.ensures.none) (c.verdict_in.ensures ∙ c.walk.ensures.tells)
