-- Document 01 as definitions, about in the paper's order, and what document 02's N2 adds to a run. Definitions only: what is true of them stands in proofs/.
-- Words of our own: lists; rules as lists of conditions.
pub mod Lists
pub mod Conditions
-- "The program form": kinds, entries, records, links; which kinds and fields a program may use.
pub mod Kinds
pub mod Editions
pub mod Types
pub mod Terms
pub mod Format
pub mod Links
pub mod FieldUses
-- "Levels and types".
pub mod Binders
pub mod Typing
-- "Steps".
pub mod Values
pub mod Indices
pub mod Matching
pub mod Contractions
pub mod Steps
pub mod Next
-- Words of our own on indices: how far the free ones reach, and how a tree is shifted.
pub mod FreeBounds
pub mod Shifts
-- "Check and run", what 02 reads off a run's steps, and demand 3.
pub mod Refusals
pub mod Check
pub mod Meets
pub mod Traces
pub mod Run
pub mod WholeRun
pub mod SmallInputs
-- "Bench sheet", "Slips at the binder", cases for the total of 02, and the limits of the counts.
pub mod BenchSheet
pub mod Slips
pub mod Totals
pub mod Limits
