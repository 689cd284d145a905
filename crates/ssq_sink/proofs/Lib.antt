pub mod Keeping
pub mod LastRows
pub mod Passes
pub mod Rereading
pub mod Rows
pub mod Sorting
pub mod Worked
