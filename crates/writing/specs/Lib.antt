-- What the contracts of the crate cite.
pub mod Slots
pub mod State
pub mod Tree
pub mod Program
