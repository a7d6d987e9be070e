-- A term in a list of records, and what the contracts of the crate say of it.
pub mod Preorder
pub mod Children
pub mod Measuring
pub mod Moves
pub mod Loads
