pub mod Rows
pub mod Keys
pub mod Finding
pub mod Handing
pub mod Dealing
pub mod Causes
pub mod Outcome
