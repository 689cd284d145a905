pub mod Shown
pub mod Commits
pub mod Keeping
