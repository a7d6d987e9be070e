-- What it is for a table that grows to have an entry.
pub mod Having
