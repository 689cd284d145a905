pub mod Fault
pub mod Loaded
