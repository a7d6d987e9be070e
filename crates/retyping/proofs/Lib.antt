-- The laws of the crate.
pub mod Types
pub mod Putting
pub mod TypedPrograms
