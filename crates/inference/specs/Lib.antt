-- Document 02's request N1 as definitions: how types are inferred, what the call answers and writes, and types written out in full.
pub mod Inference
pub mod Infer
pub mod FullTypes
