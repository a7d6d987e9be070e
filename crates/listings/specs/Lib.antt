-- What the listing of an input is, and the buffers that it is made in.
pub mod Listing
pub mod Lent
