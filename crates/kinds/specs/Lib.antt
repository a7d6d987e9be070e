-- What the contracts of the tables cite beside the definitions of `rules`.
pub mod Meant
pub mod Named
