-- The laws by which the checks are put together, what callers know of what is passed, and what is passed at the limits.
pub mod Ordering
pub mod Counts
pub mod Parts
pub mod Passed
pub mod Limits
