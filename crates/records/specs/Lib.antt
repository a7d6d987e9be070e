-- What the contracts of the crate cite.
pub mod Overwritten
pub mod View
pub mod Meant
pub mod Places
