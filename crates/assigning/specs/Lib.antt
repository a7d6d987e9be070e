-- What it is to give a record its type.
pub mod Assigning
