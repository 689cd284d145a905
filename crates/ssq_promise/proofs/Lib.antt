pub mod Joining
pub mod Leaving
pub mod Truths
pub mod Coming
pub mod Knowing
