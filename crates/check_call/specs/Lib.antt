-- What the answer of check means.
pub mod Answers
