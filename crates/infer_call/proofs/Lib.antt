-- The laws of the answer of infer: the parts of the program, what is filled, what is written with it, and the refusals.
pub mod Parts
pub mod Filled
pub mod Written
pub mod Answering
