-- The zipper: a term laid out around its focus in one list of records.
pub mod Layout
pub mod Focusing
pub mod Moving
