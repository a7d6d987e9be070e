-- What the contracts of the crate cite.
pub mod Numbering
pub mod Renumbering
pub mod Tables
pub mod InOrder
