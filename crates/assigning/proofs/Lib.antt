-- The laws of giving a record its type.
pub mod Candidates
pub mod Faults
