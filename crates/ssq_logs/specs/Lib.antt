pub mod Parts
pub mod Asked
pub mod Went
pub mod Opened
