-- The laws by which the code is proved, a file for each part of it.
pub mod Entering
pub mod Fielding
pub mod BitLaws
pub mod NoteLaws
