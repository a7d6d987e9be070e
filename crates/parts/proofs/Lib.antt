-- The laws of the parts of a program.
pub mod Parting
