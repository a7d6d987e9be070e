-- The laws of substitution by copying.
pub mod MadeCopies
pub mod Sums
pub mod ReplacedCopies
