-- What falls is how many records are left.
use Rattle.filling.proofs.Filler.+tree.Given as goal

abbrev pub decreases-tree : goal.decreases-tree
decreases-tree l = l.self.now.left
