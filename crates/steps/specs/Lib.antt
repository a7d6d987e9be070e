-- What the contracts of the step cite.
pub mod Stepping
pub mod Contracting
pub mod Starting
pub mod Output
