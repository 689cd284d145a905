pub mod Timed
pub mod Rows
pub mod Indexing
pub mod Forgetting
pub mod Shown
pub mod Steps
pub mod Hashing
