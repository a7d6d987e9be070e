-- What the contracts of the crate cite.
pub mod Fields
pub mod BitSets
pub mod Noting
