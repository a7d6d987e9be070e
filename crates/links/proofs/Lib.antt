-- The laws by which the functions of the crate are proved.
pub mod Bumping
pub mod Counting
