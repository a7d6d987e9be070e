-- What is true of contexts.
pub mod Contexts
pub mod Moving
pub mod Inside
pub mod Sides
pub mod Focused
