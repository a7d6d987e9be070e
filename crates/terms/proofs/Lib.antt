-- The laws of terms in lists of records.
pub mod Puts
pub mod There
pub mod Children
pub mod Trees
pub mod Storing
pub mod Readings
pub mod Joined
pub mod Low
pub mod Moving
pub mod Numbered
pub mod Chains
pub mod Loading
pub mod Loaded
