-- Evaluation contexts: a term with a hole where its next step is made.
pub mod Contexts
pub mod Moving
pub mod Sides
pub mod Focused
