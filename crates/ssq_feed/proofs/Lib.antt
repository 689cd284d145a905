pub mod Windowing
pub mod Members
pub mod Feeding
pub mod Dealing
pub mod ArgumentLemmas
