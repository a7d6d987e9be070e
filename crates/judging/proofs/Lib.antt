-- The laws of the judging of a record: the stack of binders, what is read, the type rule of a match, and the order of the three rules.
pub mod Stacking
pub mod Reading
pub mod TypeRule
pub mod Order
