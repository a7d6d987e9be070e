-- The laws of checks that follow one another, and of the scan for the lowest fault.
pub mod Laws
pub mod Reporting
