pub mod Lists
pub mod Timing
pub mod RowTimes
pub mod Indexed
pub mod Hashed
pub mod ByBytes
pub mod Exceeding
pub mod Printing
