-- Contraction: what a redex becomes.
pub mod Plans
pub mod Naming
pub mod Redexes
pub mod Making
