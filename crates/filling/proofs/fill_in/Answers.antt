-- It is the walk from the root; what it leaves in the lent table and places is what the struct has at the end.
use Rattle.std.proofs.Common.{ℕ, refl, arith}
use lib.ListN.{length-replicate}
use Rattle.filling.proofs.Whole.{root_asked, root_filled}
use Rattle.filling.proofs.fill_in.Goals as goal

pub tree-root-requires : goal.tree-root-requires
tree-root-requires g c = root_asked c.requires.can_fill _ refl refl refl c.none.ensures.none c.record_count.ensures (omega (arith, length-replicate {A = ℕ}, c.requires.enough_room, c.none.ensures.room))

pub returns : goal.returns
returns g c = root_filled c.requires.can_fill _ refl refl refl c.none.ensures.none c.record_count.ensures c.tree-root.new.self _ _ (grind arith) (grind arith) c.tree-root.ensures
