-- The laws of check's answer.
pub mod Checks
