-- Copies of trees in which indices move or uses are wrapped: what a copy needs, and what it writes.
pub mod Roots
pub mod Raising
pub mod Copying
pub mod Wrapping
