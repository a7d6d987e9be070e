-- What the answer of infer means, and what infer ensures.
pub mod Answers
