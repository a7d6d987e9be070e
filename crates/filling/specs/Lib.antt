-- What the contracts of the walk cite.
pub mod Filling
