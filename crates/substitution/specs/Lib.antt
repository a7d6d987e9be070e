-- Substitution by copying: what variables give way to, and what the copies are.
pub mod Arguments
pub mod Making
pub mod Replacing
