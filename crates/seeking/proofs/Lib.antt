-- What the search from a focus comes to.
pub mod Searching
pub mod SearchLoop
