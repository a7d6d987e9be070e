-- The laws of a whole run.
pub mod Stepping
pub mod Looping
pub mod Finishing
pub mod Programs
