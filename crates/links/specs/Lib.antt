-- What the contracts of the crate cite.
pub mod Counters
pub mod Chains
