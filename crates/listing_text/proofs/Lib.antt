-- The laws by which the functions of the crate are proved: of parts, and of the numbers, words and lines that the parts make.
pub mod Parts
pub mod Decimals
pub mod Numbers
pub mod Endings
pub mod Lines
pub mod Listing
pub mod Printing
-- Worked examples.
pub mod Examples
