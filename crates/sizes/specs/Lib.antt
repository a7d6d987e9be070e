-- What is counted before anything is copied.
pub mod Counting
