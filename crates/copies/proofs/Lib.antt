-- The laws of copies.
pub mod Roots
pub mod Rows
pub mod RaisedIndices
pub mod RaisedLeaves
pub mod RaisedRoots
pub mod RaisedRows
pub mod RaisedCopies
pub mod RaisedChildren
pub mod Copies
pub mod Parts
pub mod WrappedCopies
