pub mod Steps
pub mod Upkeep
