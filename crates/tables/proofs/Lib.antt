-- The laws of a table that grows.
pub mod Lookup
