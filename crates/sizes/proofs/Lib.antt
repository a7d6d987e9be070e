-- The sizes of copies.
pub mod Weights
pub mod SizesAfter
pub mod ArgumentSizes
pub mod ReplacedSizes
