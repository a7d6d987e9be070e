-- What is true of a match and its code.
pub mod Candidates
pub mod Reading
pub mod Telling
pub mod Succeeding
pub mod Outcomes
