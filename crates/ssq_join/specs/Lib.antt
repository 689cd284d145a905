pub mod Judging
pub mod Steps
pub mod Telling
pub mod Meeting
pub mod Changing
pub mod Turning
pub mod Overs
