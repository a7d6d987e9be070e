-- The laws of the step.
pub mod Reducible
pub mod Values
pub mod TermSearch
pub mod Starting
pub mod Planning
pub mod Output
pub mod Contracting
pub mod Stepping
