pub mod Counts
pub mod Made
