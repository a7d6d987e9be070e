-- The laws by which a caller knows the bytes. Records, Entries, Puts and Program are for callers; Form says what they ask of bytes.
pub mod Records
pub mod Entries
pub mod Puts
pub mod Copying
pub mod Program
pub mod Form
-- What those and the proofs of the code rest on.
pub mod Views
pub mod Fields
pub mod Overwriting
pub mod Lists
pub mod Writing
pub mod Placing
