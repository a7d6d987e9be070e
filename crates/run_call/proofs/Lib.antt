-- The laws of a run's answer.
pub mod Accepting
pub mod Answering
