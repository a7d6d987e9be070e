-- What the contracts of the crate cite, and the words of its theorems.
pub mod Finding
pub mod Located
pub mod Descent
