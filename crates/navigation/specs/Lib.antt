-- The way of a focus through its term.
pub mod Ascending
pub mod Descending
