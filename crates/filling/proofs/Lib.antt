-- The laws of the walk that gives records their types: what an inference's fault is, the types by their places, what inference goes on from, how far the
-- walk has come, what the children's trees come to, the walk itself, and the walk from the root.
pub mod FaultLaws
pub mod TypeLaws
pub mod Inferring
pub mod Coming
pub mod Sequence
pub mod FillLaws
pub mod Whole
