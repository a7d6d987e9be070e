-- What the contracts of the walk cite.
pub mod Reading
pub mod Pushing
pub mod Walking
