-- What a match becomes.
pub mod Matches
