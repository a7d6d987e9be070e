-- Document 02's request N4 as definitions: types in full, tables in order of use, what differs in numbers of types only, and what run and infer answer and
-- write in that order. What run and infer write is still `output` of crate rules.
pub mod Lists
pub mod FullTypes
pub mod Numbers
pub mod Order
pub mod Alike
pub mod RunInOrder
pub mod WholeRun
pub mod InferInOrder
-- The order of use over types in full: what the proofs go through.
pub mod OrderInFull
