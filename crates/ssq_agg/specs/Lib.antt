pub mod Readable
pub mod Fits
pub mod Groups
pub mod Holding
pub mod Indexing
pub mod Closed
pub mod Shown
pub mod Steps
