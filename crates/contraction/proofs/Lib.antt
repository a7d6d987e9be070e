-- The laws of contraction.
pub mod Places
pub mod Arguments
pub mod Unchanged
pub mod PlannedBodies
pub mod Rewriting
pub mod PlannedForms
pub mod Contracta
pub mod Room
