pub mod Damaged
pub mod Driven
pub mod Good
pub mod Kept
pub mod Rounds
