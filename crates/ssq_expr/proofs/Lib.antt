pub mod Opened
pub mod Projecting
pub mod Years
pub mod Texts
