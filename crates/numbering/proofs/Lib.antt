-- The laws of the crate.
pub mod Needing
pub mod Fields
pub mod Records
pub mod Fronts
pub mod Renumbering
pub mod Tables
pub mod Terms
pub mod InOrder
