-- The laws of the listing.
pub mod Runs
pub mod Showing
pub mod Printed
