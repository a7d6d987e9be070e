-- The laws of the finders, and what they find.
pub mod Ends
pub mod Located
pub mod Cases
pub mod Scanning
pub mod Descending
