-- The laws of the lengths of lent buffers.
pub mod Lengths
