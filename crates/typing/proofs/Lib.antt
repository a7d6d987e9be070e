-- The laws of the walk: what is read of a record, how it is judged, what it binds, the records of its tree, and the walk itself.
pub mod RecordLaws
pub mod OwnLaws
pub mod PushLaws
pub mod TreeCounts
pub mod WalkedBy
pub mod NumberLaws
pub mod WalkLaws
