-- Records whose form is passed make one tree.
use Rattle.checker.proofs.Passed.{form_tree}
use Rattle.checker.proofs.parts_refusal.Goals as goal

pub types_refusal-requires : goal.types_refusal-requires
types_refusal-requires c = form_tree _ c.requires _ c.parts_of.ensures _ _ c.in_ok-form_refusal.ensures
