pub mod Derived
pub mod NameOrder
pub mod Names
pub mod Steps
