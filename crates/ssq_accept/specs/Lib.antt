pub mod Refusals
pub mod Accepting
