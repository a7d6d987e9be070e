-- What the contracts of the crate cite.
pub mod Decimal
pub mod Text
pub mod Parts
pub mod Buffers
