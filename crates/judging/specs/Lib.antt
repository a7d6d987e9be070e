-- What the contracts of the judging of a record cite: the stack of binders, and the tests that the judging is made of.
pub mod Stack
pub mod Tests
