pub mod Agreeing
pub mod Checkpoint
pub mod Shown
