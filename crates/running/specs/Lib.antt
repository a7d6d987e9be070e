-- What the contracts of a whole run cite.
pub mod Endings
pub mod Running
pub mod Looping
pub mod Finishing
pub mod Programs
