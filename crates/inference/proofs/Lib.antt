-- What is true of inference: examples by computing, then laws of the walk, then that it finds the one filling there is, of terms and of programs.
pub mod AtWork
pub mod Outcomes
pub mod Generations
pub mod Cleared
pub mod Growing
pub mod Renaming
pub mod Counting
pub mod Sound
pub mod Complete
pub mod ByLinks
pub mod InFull
pub mod Fillings
pub mod Calls
pub mod Fourteen
pub mod Returned
pub mod Readings
