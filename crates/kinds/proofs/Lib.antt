-- The laws of the tables.
pub mod Named
