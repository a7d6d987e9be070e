-- What the contracts of the crate ask.
pub mod Limits
pub mod Refused
