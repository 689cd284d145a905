pub mod Names
pub mod Walks
pub mod Marks
pub mod Finding
mod Reading
pub mod Planning
pub mod Others
pub mod Keeping
pub mod Beginning
pub mod InOrder
pub mod Opens
pub mod Passing
pub mod Standings
pub mod Looks
pub mod Storing
pub mod Stated
