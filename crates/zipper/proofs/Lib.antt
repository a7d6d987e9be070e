-- What is true of a term laid out around its focus.
pub mod Sides
pub mod Places
pub mod Moves
pub mod Closed
pub mod Opened
pub mod Rows
pub mod Closing
pub mod Wholes
pub mod Opening
pub mod Bringing
pub mod Filling
