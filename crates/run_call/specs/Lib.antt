-- What the answer of a run means, and what a run ensures.
pub mod Answers
