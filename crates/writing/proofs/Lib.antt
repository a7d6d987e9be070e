-- The laws that the proofs of the code rest on.
pub mod Copying
pub mod Slots
pub mod Children
pub mod Tree
pub mod Records
pub mod Program
pub mod Fronts
