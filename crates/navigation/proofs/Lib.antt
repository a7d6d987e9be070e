-- What is true of a focus on its way.
pub mod Downward
pub mod Turns
pub mod Climbing
pub mod Reaching
